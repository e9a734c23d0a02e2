-- Turns of a run: how it goes on, and how its end stays.
use Rattle.cli_rewind.proofs.Common.{◌≡◌, ◌≤◌, inl, inr, ℕ, zero, suc, List, Option, Some, None, refl, sym, ap, subst, ◌∙◌, arith, cases_lt, End, Meaning}
use Rattle.cli_rewind.proofs.Common.{Outcome, Done, Refused, MicroRun, after_end_or_step, after_step, bounded, end_before, turn, turn_by, turns, word_at}
use Rattle.std.specs.Fn.{iterate}

iterate-suc : {A : Type 0} (h : A → A) (n : ℕ) (x : A) → iterate h (suc n) x ≡ h (iterate h n x)
iterate-suc h zero x = refl
iterate-suc h (suc n) x = iterate-suc h n (h x)

module _ {State : Type 0} (m : Meaning State) (words : List ℕ) where
  -- one more turn
  pub turned : (n : ℕ) (r : MicroRun State) → turns m words None (suc n) r ≡ turn m words (turns m words None n r)
  turned n r = iterate-suc (λ (x : MicroRun State). turn m words (bounded m None x)) n r

  going_by : (e : Option End) (r : MicroRun State) → r.end ≡ e → (turn_by m words e r).end ≡ None → e ≡ None
  going_by None r is none = refl
  going_by (Some e) r is none = sym is ∙ none

  -- a run that a turn did not end had not ended
  going : (r : MicroRun State) → (turn m words r).end ≡ None → r.end ≡ None
  going r none = going_by r.end r refl none

  -- a run that has not ended after some turns had not after fewer
  pub earlier : (k n : ℕ) (r : MicroRun State) → n ≤ k → (turns m words None k r).end ≡ None → (turns m words None n r).end ≡ None
  earlier zero n r le none = let e : zero ≡ n = omega (arith, le) in subst (λ (j : ℕ). (turns m words None j r).end ≡ None) e none
  earlier (suc k) n r le none =
      elim (cases_lt n (suc k)) [
        | inl below ↦ (earlier k n r (omega (arith, below)) (going (turns m words None k r) (subst (λ (x : MicroRun State). x.end ≡ None) (turned k r) none)))
        | inr above ↦ (let e : suc k ≡ n = omega (arith, le, above) in subst (λ (j : ℕ). (turns m words None j r).end ≡ None) e none)
      ]

  stays_by : (o : Option End) (r : MicroRun State) (e : End) → o ≡ Some e → turn_by m words o r ≡ r
  stays_by None r e is = absurd (cc)
  stays_by (Some x) r e is = refl

  -- a run that has ended stays
  pub stays : (r : MicroRun State) (e : End) → r.end ≡ Some e → turn m words r ≡ r
  stays r e is = stays_by r.end r e is

  stepped_world : (r : MicroRun State) (o : Outcome State) (e : End) → (after_step m words r o).end ≡ Some e → (after_step m words r o).world ≡ r.world
  stepped_world r (Done s w) e is = absurd (cc)
  stepped_world r (Refused why) e is = refl

  gone_world : (b : Option End) (r : MicroRun State) (e : End) → (after_end_or_step m words b r).end ≡ Some e → (after_end_or_step m words b r).world ≡ r.world
  gone_world (Some x) r e is = refl
  gone_world None r e is = stepped_world r (m.step (word_at m words r.state) r.state r.world) e is

  turn_world : (o : Option End) (r : MicroRun State) (e : End) → (turn_by m words o r).end ≡ Some e → (turn_by m words o r).world ≡ r.world
  turn_world (Some x) r e is = refl
  turn_world None r e is = gone_world (end_before m r.state r.counts) r e is

  -- a turn that ends changes nothing of the world
  pub end_leaves : (n : ℕ) (r : MicroRun State) (e : End) → (turns m words None (suc n) r).end ≡ Some e →
      (turns m words None (suc n) r).world ≡ (turns m words None n r).world
  end_leaves n r e is =
      let last = turns m words None n r in
      ap (λ (x : MicroRun State). x.world) (turned n r) ∙ turn_world last.end last e (subst (λ (x : MicroRun State). x.end ≡ Some e) (turned n r) is)
