-- The turns of one instruction.
use Rattle.mic_clock.proofs.Common.{◌≡◌, inl, inr, zero, suc, ℕ, List, None, false, refl, ◌∙◌, ap, subst, arith, cases_lt, Option}
use Rattle.mic_clock.specs.Prelude.{Meaning, BoardView, MicroRun, turns, IsInside, IsLeg, ShowsRun, IsLedTo, Leads, IsLedTo-map}

module _ {State : Type 0} (m : Meaning State) (words : List ℕ) where
  -- the first turn is a leg
  pub IsLeg-one : (r : MicroRun State) → IsLeg m words (suc zero) r
  IsLeg-one r = record { some = omega arith; inside = λ k pos lt. absurd (omega arith) }

  -- a turn more, after one that stays inside the instruction
  pub IsLeg-suc : (n : ℕ) (r : MicroRun State) → IsLeg m words n r → IsInside m words (turns m words None n r) → IsLeg m words (suc n) r
  IsLeg-suc n r leg here =
      record {
        some = omega arith;
        inside = λ k pos lt. elim (cases_lt k n) [
          | inl below ↦ leg.inside k pos below
          | inr above ↦ (let e : n ≡ k = omega arith in subst (λ (j : ℕ). IsInside m words (turns m words None j r)) e here)
        ];
      }

module _ {M State : Type 0} (state : M → State) (m : Meaning State) (words : List ℕ) where
  -- before the first turn
  pub leg-start : (left held : Option (List ℕ)) (board : BoardView M) →
      IsLedTo state left held board left board (λ r rest. (n : ℕ) × IsLeg m words (suc n) r × Leads state m words None board board.buses rest n r (ShowsRun state left held board))
  leg-start left held board rest fits = (rest, fits, λ r s e. (0, IsLeg-one m words r, record { here = s; untaken = e; buses = refl }))

  -- inside the instruction another turn may follow
  pub leg-inside : (left0 held0 : Option (List ℕ)) (board0 : BoardView M) (left held : Option (List ℕ)) (board : BoardView M) →
      board.end ≡ None → m.is_boundary (state board.machine) ≡ false →
      IsLedTo state left0 held0 board0 left board (λ r rest. (n : ℕ) × IsLeg m words n r × Leads state m words None board board0.buses rest n r (ShowsRun state left held board)) →
      IsLedTo state left0 held0 board0 left board (λ r rest. (n : ℕ) × IsLeg m words (suc n) r × Leads state m words None board board0.buses rest n r (ShowsRun state left held board))
  leg-inside left0 held0 board0 left held board not_ended inside led =
      IsLedTo-map state left0 held0 board0 left board _ _
      (λ r rest at. (
        at.0,
        IsLeg-suc m words at.0 r at.1 (record { running = at.2.here.its_end ∙ not_ended; no_boundary = ap m.is_boundary at.2.here.its_state ∙ inside }),
        at.2,
      ))
      led
