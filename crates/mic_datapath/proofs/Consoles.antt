-- What an access past the memory's words does at the console.
use Rattle.mic_datapath.proofs.Common.{◌≡◌, ℕ, ◌%◌, ◌≤◌, true, false, [], ◌∷◌, ◌++◌, drop, arith, nat_lt, nat_tests, World, untaken_after, given_after, Mem}
use Rattle.mic_datapath.proofs.Common.{is_read, sampled, written, Ports}
use Rattle.micro_word.specs.declared.statement.Mem.TheVariants as mems

off : (n at : ℕ) → n ≤ at → nat_lt at n ≡ false
off n at beyond = grind (arith, nat_tests)

pub takes : (n : ℕ) (p : Ports) (mem : Mem) (w : World) → n ≤ p.mar → is_read mem ≡ true → (sampled n mem p (written n mem p w)).untaken ≡ drop 1 w.untaken
unfolding untaken_after
takes n p mems.Read w beyond is = rw (off n p.mar beyond)
takes n p mems.Write w beyond is = absurd (cc)
takes n p mems.None w beyond is = absurd (cc)

pub gives : (n : ℕ) (p : Ports) (w : World) → n ≤ p.mar → (written n mems.Write p w).given ≡ w.given ++ (p.mdr % 256) ∷ []
unfolding given_after
gives n p w beyond = rw (off n p.mar beyond)
