-- Passes: their first step, and the rest.
use Rattle.ijvm_simulation.proofs.Common.{◌≡◌, ℕ, true, false, Option, Some, None, List, refl, arith, sym, ◌∙◌, inl, inr, cases_Bool, nat_tests, same_Some}
use Rattle.ijvm_simulation.proofs.Common.{Meaning, Outcome, Done, Refused}
use Rattle.ijvm_simulation.specs.Passes.{Moment, is_inside, last, onward, onward-inside}

module _ {State : Type 0} (m : Meaning State) where
  pub not_boundary : (s : State) → is_inside m s ≡ true → m.is_boundary s ≡ false
  not_boundary s h = grind (arith, nat_tests)

module _ {State : Type 0} (m : Meaning State) (program : List ℕ) where
  -- a pass of more than one step: its first step, and the pass from there
  pub record Inner (more : Moment State → Option (Moment State)) (stalls : ℕ) (o : Outcome State) (q : Moment State) : Type 0 where
    pub mid : Moment State
    pub is : o ≡ Done mid.state mid.world
    pub counted : mid.stalls ≡ stalls
    pub inside : is_inside m mid.state ≡ true
    pub rest : more mid ≡ Some q

  outside : (more : Moment State → Option (Moment State)) (p q : Moment State) → is_inside m p.state ≡ false → onward m program more p.stalls (Done p.state p.world) ≡ Some q → ⊥
  outside more p q f h = let e : onward m program more p.stalls (Done p.state p.world) ≡ None = simp (f, onward) in cc

  pub inner : (more : Moment State → Option (Moment State)) (stalls : ℕ) (o : Outcome State) (q : Moment State) → onward m program more stalls o ≡ Some q → Inner more stalls o q
  inner more stalls (Refused why) q h = absurd (cc)
  inner more stalls (Done s w) q h =
      let p : Moment State = record { state = s; world = w; stalls = stalls } in
      elim (cases_Bool (is_inside m s)) [
        | inl t ↦ record { mid = p; is = refl; counted = refl; inside = t; rest = sym (onward-inside m program more p t) ∙ h }
        | inr f ↦ absurd (outside more p q f h)
      ]

  pub record Last (stalls : ℕ) (o : Outcome State) (q : Moment State) : Type 0 where
    pub is : o ≡ Done q.state q.world
    pub counted : q.stalls ≡ stalls

  pub last_is : (stalls : ℕ) (o : Outcome State) (q : Moment State) → last m program stalls o ≡ Some q → Last stalls o q
  last_is stalls (Refused why) q h = absurd (cc)
  last_is stalls (Done s w) q h = record { is = λ i. Done ((same_Some _ _ h) i).state ((same_Some _ _ h) i).world; counted = λ i. (same_Some _ _ (sym h) i).stalls }
