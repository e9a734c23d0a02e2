-- What each microstep of a machine leaves of the world, all turns of a run leave.
use Rattle.ijvm_simulation.proofs.Common.{◌≡◌, ◌++◌, [], append_assoc, ℕ, zero, suc, ◌+◌, ◌-◌, ◌≤◌, Bool, true, false, Option, Some, None, List, refl, arith}
use Rattle.ijvm_simulation.proofs.Common.{sym, ◌∙◌, ap, subst, inl, inr, nat_le, if◌then◌else◌, cases_lt, append-nil, World, End, Meaning, Outcome, Done}
use Rattle.ijvm_simulation.proofs.Common.{Refused, MicroRun, turn, turn_by, turns, bounded, bounded_by, after_end_or_step, after_step, end_before, word_at}
use Rattle.mic_clock.specs.declared.end.End.TheVariants as ends
use Rattle.ijvm_simulation.specs.Prelude.{OnDone, Grows}
use Rattle.ijvm_simulation.proofs.Turns.{whole_turn, turns-add, ended_stays}

module _ {S : Type 0} (m : Meaning S) (words : List ℕ) (bound : ℕ) where
  pub bounded_world : (r : MicroRun S) → (bounded m (Some bound) r).world ≡ r.world
  bounded_world r = by_end r.end
    where
      by_tests : (a b : Bool) → (if a then (if b then record { state = r.state; world = r.world; counts = r.counts; end = Some ends.Bound } else r) else r).world ≡ r.world
      by_tests true true = refl
      by_tests true false = refl
      by_tests false b = refl

      by_end : (e : Option End) → (bounded_by m e bound r).world ≡ r.world
      by_end (Some e) = refl
      by_end None = by_tests (m.is_boundary r.state) (nat_le bound r.counts.cycles)

  -- a relation of the worlds before and after
  module _ (P : World → World → Type 0) (same : (w : World) → P w w) (onward : (u v w : World) → P u v → P v w → P u w)
      (steps : (word : ℕ) (s : S) (w : World) → OnDone (P w) (m.step word s w)) where
    stepped_keeps : (r : MicroRun S) (o : Outcome S) → OnDone (P r.world) o → P r.world (after_step m words r o).world
    stepped_keeps r (Done s v) h = h
    stepped_keeps r (Refused why) h = same r.world

    gone_keeps : (e : Option End) (r : MicroRun S) → P r.world (after_end_or_step m words e r).world
    gone_keeps (Some e) r = same r.world
    gone_keeps None r = stepped_keeps r (m.step (word_at m words r.state) r.state r.world) (steps (word_at m words r.state) r.state r.world)

    turn_keeps : (e : Option End) (r : MicroRun S) → P r.world (turn_by m words e r).world
    turn_keeps (Some e) r = same r.world
    turn_keeps None r = gone_keeps (end_before m r.state r.counts) r

    whole_turn_keeps : (r : MicroRun S) → P r.world (whole_turn m words bound r).world
    whole_turn_keeps r =
        let b : MicroRun S = bounded m (Some bound) r in
        subst (λ (w : World). P w (turn m words b).world) (bounded_world r) (turn_keeps b.end b)

    pub turns_keep : (k : ℕ) (r : MicroRun S) → P r.world (turns m words (Some bound) k r).world
    turns_keep zero r = same r.world
    turns_keep (suc k) r =
        onward r.world (whole_turn m words bound r).world (turns m words (Some bound) k (whole_turn m words bound r)).world
        (whole_turn_keeps r) (turns_keep k (whole_turn m words bound r))

  -- the turns between two moments
  pub between : (n k : ℕ) (r : MicroRun S) → n ≤ k → turns m words (Some bound) k r ≡ turns m words (Some bound) (k - n) (turns m words (Some bound) n r)
  between n k r l =
      let split : k ≡ n + (k - n) = omega arith in
      ap (λ (i : ℕ). turns m words (Some bound) i r) split ∙ turns-add m words bound n (k - n) r

  -- a moment after an end is that end
  pub after_end : (n k : ℕ) (e : End) (r : MicroRun S) → (turns m words (Some bound) n r).end ≡ Some e → n ≤ k →
      turns m words (Some bound) k r ≡ turns m words (Some bound) n r
  after_end n k e r h l = between n k r l ∙ ended_stays m words bound (k - n) (turns m words (Some bound) n r) e h

  -- two ended moments of a run are the same
  pub same_end : (n k : ℕ) (d e : End) (r : MicroRun S) → (turns m words (Some bound) n r).end ≡ Some d → (turns m words (Some bound) k r).end ≡ Some e →
      turns m words (Some bound) n r ≡ turns m words (Some bound) k r
  same_end n k d e r hd he = elim (cases_lt n k) [
    | inl l ↦ sym (after_end n k d r hd (omega arith))
    | inr l ↦ after_end k n e r he l
  ]

-- The bytes that a run has given only become more.
stays : (xs : List ℕ) → Grows xs xs
stays xs = record { more = []; are = sym (append-nil xs) }

grows_on : (xs ys zs : List ℕ) → Grows xs ys → Grows ys zs → Grows xs zs
grows_on xs ys zs g h = record { more = g.more ++ h.more; are = h.are ∙ (ap (λ (l : List ℕ). l ++ h.more) g.are ∙ append_assoc xs g.more h.more) }

module _ {S : Type 0} (m : Meaning S) (grows : (word : ℕ) (s : S) (w : World) → OnDone (λ (v : World). Grows w.given v.given) (m.step word s w)) where
  pub turns_grow : (words : List ℕ) (bound k : ℕ) (r : MicroRun S) → Grows r.world.given (turns m words (Some bound) k r).world.given
  turns_grow words bound =
      turns_keep m words bound (λ (u v : World). Grows u.given v.given) (λ w. stays w.given) (λ u v w. grows_on u.given v.given w.given) grows

  -- what a run has given at some moment is a front of what it has given at its end
  pub front_of_end : (words : List ℕ) (bound n k : ℕ) (e : End) (r : MicroRun S) → (turns m words (Some bound) k r).end ≡ Some e →
      Grows (turns m words (Some bound) n r).world.given (turns m words (Some bound) k r).world.given
  front_of_end words bound n k e r ended = elim (cases_lt k n) [
    | inl l ↦
        let later : turns m words (Some bound) n r ≡ turns m words (Some bound) k r = after_end m words bound k n e r ended (omega arith) in
        record { more = []; are = sym (append-nil _ ∙ ap (λ (x : MicroRun S). x.world.given) later) }
    | inr l ↦
        let g : Grows (turns m words (Some bound) n r).world.given (turns m words (Some bound) (k - n) (turns m words (Some bound) n r)).world.given =
        turns_grow words bound (k - n) (turns m words (Some bound) n r) in
        record { more = g.more; are = ap (λ (x : MicroRun S). x.world.given) (between m words bound n k r l) ∙ g.are }
  ]
