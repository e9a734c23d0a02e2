-- What an operation finds on the B bus where it does not use it.
use Rattle.std.specs.Prelude.{◌≡◌, ℕ, ◌/◌, ◌%◌, ◌==◌, Bool, Option, None, IsTrue}
use Rattle.micro_word.specs.Prelude.{fits_side, row}
use Rattle.micro_word.specs.declared.statement.AluOp.{AluOp}
use Rattle.micro_word.specs.declared.statement.BusSource.{BusSource}
use Rattle.mic_alu.specs.Prelude.{enabled}

-- an operation finds 0 on the B bus where it does not use it
abbrev pub PassesSideB : Type 0
PassesSideB =
    (op : AluOp) (may : BusSource → Bool) (b : Option BusSource) (x : ℕ) →
    IsTrue (fits_side (row op).uses_b may b) → (b ≡ None → x ≡ 0) → enabled ((row op).gates / 4 % 2 == 1) x ≡ x
