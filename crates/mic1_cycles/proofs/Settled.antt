-- What a cycle computes, and the registers after its clock edge.
use Rattle.mic1_cycles.proofs.Common.{◌≡◌, ℕ, Bool, true, Option, sym, ap, ◌∙◌, World, Refusal, alu, shifted, Placed, Outcome, written, sampled, word_under_way}
use Rattle.mic1_cycles.proofs.Common.{byte_under_way, access_refusal, outcome, Micro, assigned, result_of, settled, next_micro, Symbols, assigned_symbols}
use Rattle.mic1_cycles.proofs.Common.{micro_of, HasSigns, IsComputed}
use Rattle.mic1_datapath.specs.Prelude.{ports_of as ports_of_micro}
use Rattle.mic1_cycles.proofs.Loads.{on_bus, are_assigned}

-- the rest of a cycle, whose accesses are refused or not
abbrev pub step_by : Option Refusal → ℕ → Placed → ℕ → Micro → World → Outcome Micro
step_by refusal n p x m w =
    outcome refusal (next_micro p.next x m
    (word_under_way n p.part.mem (ports_of_micro m) (written n p.part.mem (ports_of_micro m) w))
    (byte_under_way p.part.fetch (ports_of_micro m) (written n p.part.mem (ports_of_micro m) w)))
    (sampled n p.part.mem (ports_of_micro m) (written n p.part.mem (ports_of_micro m) w))

abbrev pub step_from : ℕ → Placed → ℕ → Micro → World → Outcome Micro
step_from n p x m w = step_by (access_refusal n p.part.mem p.part.fetch (ports_of_micro m)) n p x m w

module _ (word : ℕ → ℕ) (start : World) (p : Placed) (empty x v : ℕ) (s : Symbols) (signs : HasSigns word s)
    (c : IsComputed word start p.part empty x v s) (entry : ℕ) (clocked : Bool) where
  pub result_is : result_of p.part (micro_of word entry clocked s) ≡ word x
  result_is = ap (λ (b : ℕ). alu p.part.op (word s.h) b) (on_bus word entry clocked empty s p.part.b c.is_zero signs) ∙ sym c.result

  pub settled_is : settled p.part (micro_of word entry clocked s) ≡ micro_of word entry true (assigned_symbols p.part.dests v s)
  settled_is =
      ap (λ (y : ℕ). assigned p.part.dests y (micro_of word entry clocked s)) (ap (λ (r : ℕ). shifted p.part.shift r) result_is ∙ sym c.shifted)
      ∙ are_assigned word entry clocked p.part.dests v s
