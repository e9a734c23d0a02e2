-- What is given before a cycle that was cut is a front of what is given where all is done.
use Rattle.cli_rewind.proofs.Common.{◌≡◌, ◌<◌, ◌≤◌, inl, inr, ℕ, zero, suc, List, Option, Some, None, sym, subst, ◌∙◌, arith, cases_lt, End, Meaning, MicroRun}
use Rattle.cli_rewind.proofs.Common.{IsFrontOf, OnlyGives, front_same, front_then, held_front, turn_gives, GoesForward, Stand, StopsBy, run_at}
use Rattle.cli_session.specs.Prelude.{IsFront}
use Rattle.cli_rewind.proofs.Turning.{earlier, turned}

module _ {State : Type 0} (m : Meaning State) (words : List ℕ) where
  module _ (only : OnlyGives m) where
    more_given : (k n : ℕ) (r : MicroRun State) → k ≤ n → IsFront (run_at m words r k).world.given (run_at m words r n).world.given
    more_given k zero r le = let e : zero ≡ k = omega (arith, le) in subst (λ (j : ℕ). IsFront (run_at m words r j).world.given r.world.given) e
        (front_same r.world.given)
    more_given k (suc n) r le =
        elim (cases_lt k (suc n)) [
          | inl below ↦
              (let before = run_at m words r n in
              front_then (run_at m words r k).world.given before.world.given (run_at m words r (suc n)).world.given (more_given k n r (omega (arith, below)))
              (subst (λ (x : MicroRun State). IsFront before.world.given x.world.given) (sym (turned m words n r)) (turn_gives m words only before.end before)))
          | inr above ↦
              (let e : suc n ≡ k = omega (arith, le, above) in
              subst (λ (j : ℕ). IsFront (run_at m words r j).world.given (run_at m words r (suc n)).world.given) e (front_same (run_at m words r
              (suc n)).world.given))
        ]

  module _ (made n : ℕ) (s mid : Stand State) (gone : GoesForward m words made None s mid) (few : made < n) where
    not_before : (end : Option End) (s' : Stand State) (its : GoesForward m words n end s s') →
        StopsBy n its.made end (run_at m words s.start (suc s'.cursor)).end →
        s'.cursor < mid.cursor → ⊥
    not_before None s' its stops less =
        let c = gone.cursor in
        let c' = its.cursor in
        let made_is : gone.made ≡ made = gone.stops in
        absurd (omega (arith, c, c', made_is, stops, less, few))
    not_before (Some e) s' its stops less =
        let none = earlier m words mid.cursor (suc s'.cursor) s.start (omega (arith, less)) gone.running in
        let no : None ≡ Some e = sym none ∙ stops.1 in absurd (cc)

    -- no fewer cycles were clocked where all was done
    clocked_more : (end : Option End) (s' : Stand State) → GoesForward m words n end s s' → mid.clocked ≤ s'.clocked
    clocked_more end s' its =
        let k = gone.clocked in
        let k' = its.clocked in
        elim (cases_lt s'.cursor mid.cursor) [
          | inl less ↦ (absurd (not_before end s' its its.stops less))
          | inr le ↦ (omega (arith, k, k', le))
        ]

  pub cut_whole : (made n : ℕ) (s mid : Stand State) (held : Option (List ℕ)) → GoesForward m words made None s mid → made < n →
      IsFrontOf held (run_at m words mid.start mid.clocked).world.given → OnlyGives m → (end : Option End) (s' : Stand State) → GoesForward m words n end s s' →
      IsFrontOf held (run_at m words s'.start s'.clocked).world.given
  cut_whole made n s mid held gone few out only end s' its =
      held_front held (run_at m words mid.start mid.clocked).world.given (run_at m words s'.start s'.clocked).world.given out
      (subst (λ (r : MicroRun State). IsFront (run_at m words mid.start mid.clocked).world.given (run_at m words r s'.clocked).world.given) (gone.start
      ∙ sym its.start)
      (more_given only mid.clocked s'.clocked mid.start (clocked_more made n s mid gone few end s' its)))
