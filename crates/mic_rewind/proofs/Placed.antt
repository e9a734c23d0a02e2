-- The cursor among kept cycles that are known by where the first of them began.
use Rattle.std.proofs.Common.{◌≡◌, ◌∙◌, sym, ap, subst, refl, ℕ, suc, ◌+◌, ◌-◌, ◌<◌, ◌≤◌, List, [], ◌∷◌, ◌++◌, length, take, drop, arith, Some, None}
use Rattle.mic_rewind.proofs.Common.{common_steps, slice_get, Buffer, buffer, keep_last, tick_of, KeptCycle, Moment, Cycle, Fits, undone, redone, begun}
use Rattle.mic_rewind.proofs.Common.{cycles_from, led_from, AreKept, GoesBack, IsHistory, appended, begun_at, moment_at, view_from, view_of}
use Rattle.mic_rewind.proofs.Begun.{begun-length, begun-get, led-get, begun-snoc, led-snoc, begun-drop, led-drop}
use Rattle.mic_rewind.proofs.Zipping.{is_back, went_back, is_on, went_on, ticked, is_ahead, went_ahead}

module _ (first : Moment) (b : Buffer KeptCycle) (behind : ℕ) (words : List ℕ) (c : KeptCycle)
    (h : AreKept first b behind words) where
  found : (k : ℕ) → slice_get b.items (length b.items - k) ≡ Some c →
      slice_get (cycles_from first b.items) (length (cycles_from first b.items) - k) ≡ Some (begun (led_from first (take (length b.items - k) b.items)) c)
  found k got =
      subst (λ (n : ℕ). slice_get (cycles_from first b.items) (n - k) ≡ Some (begun (led_from first (take (length b.items - k) b.items)) c))
      (sym (begun-length first b.items)) (begun-get first b.items (length b.items - k) c got)

  -- going back over the cycle before the cursor
  module _ (some : 0 < length b.items - behind) (got : slice_get b.items (length b.items - behind - 1) ≡ Some c) where
    place_back : (n : ℕ) → n - behind - 1 ≡ n - (behind + 1)
    place_back n = omega arith

    some_there : 0 < length (cycles_from first b.items) - behind
    some_there = subst (λ (n : ℕ). 0 < n - behind) (sym (begun-length first b.items)) some

    got_back : slice_get (cycles_from first b.items) (length (cycles_from first b.items) - behind - 1) ≡ Some (begun (moment_at first b.items (behind + 1)) c)
    got_back =
        let got' : slice_get b.items (length b.items - (behind + 1)) ≡ Some c = subst (λ (k : ℕ). slice_get b.items k ≡ Some c) (place_back (length b.items)) got in
        subst (λ (k : ℕ). slice_get (cycles_from first b.items) k ≡ Some (begun (moment_at first b.items (behind + 1)) c))
        (sym (place_back (length (cycles_from first b.items)))) (found (behind + 1) got')

    pub placed_back : AreKept first b (behind + 1) (undone c.written words)
    placed_back = is_back (begun_at first b) behind (moment_at first b.items behind) words (begun (moment_at first b.items (behind + 1)) c) h some_there got_back

    pub goes_back : GoesBack (view_from first b behind words)
        (view_from first b (behind + 1) (undone c.written words))
    goes_back = went_back (begun_at first b) behind (moment_at first b.items behind) words (begun (moment_at first b.items (behind + 1)) c) h some_there got_back

  -- going on over the cycle after the cursor
  module _ (some : 0 < behind) (got : slice_get b.items (length b.items - behind) ≡ Some c) where
    led_on : c.after ≡ moment_at first b.items (behind - 1)
    led_on =
        let cursor = h.cursor in
        let n = begun-length first b.items in
        let k : suc (length b.items - behind) ≡ length b.items - (behind - 1) = omega arith in
        sym (led-get first b.items (length b.items - behind) c got) ∙ ap (λ (j : ℕ). led_from first (take j b.items)) k

    pub placed_on : AreKept first b (behind - 1) (redone c.written words)
    placed_on = subst (λ (m : Moment). IsHistory (begun_at first b) (behind - 1) m (redone c.written words)) led_on
        (is_on (begun_at first b) behind (moment_at first b.items behind) words (begun (moment_at first b.items behind) c) h some (found behind got))

    pub goes_on : GoesBack (view_from first b (behind - 1) (redone c.written words))
        (view_from first b behind words)
    goes_on = subst (λ (m : Moment). GoesBack (view_of (begun_at first b) (behind - 1) m (redone c.written words)) (view_from first b behind words)) led_on
        (went_on (begun_at first b) behind (moment_at first b.items behind) words (begun (moment_at first b.items behind) c) h some (found behind got))

    pub tick_on : c.tick ≡ tick_of (moment_at first b.items behind).counts (moment_at first b.items (behind - 1)).counts None
    tick_on = ticked (begun_at first b) behind (moment_at first b.items behind) words (begun (moment_at first b.items behind) c) h some (found behind got)
        ∙ ap (λ (m : Moment). tick_of (moment_at first b.items behind).counts m.counts None) led_on

take_all : (cs : List KeptCycle) → take (length cs - 0) cs ≡ cs
take_all cs = grind (arith, common_steps)

-- a cycle that leads on from the newest state, and what it drops
module _ (first : Moment) (b : Buffer KeptCycle) (words words' : List ℕ) (c : KeptCycle)
    (h : AreKept first b 0 words)
    (f : Fits (begun (moment_at first b.items 0) c) (moment_at first b.items 0) c.after words words')
    (first' : Moment) (first_is : first' ≡ led_from first (take (length (b.items ++ c ∷ []) - b.capacity) (b.items ++ c ∷ []))) where
  abbrev pub kept : List KeptCycle
  kept = keep_last b.capacity (b.items ++ c ∷ [])

  all_is : cycles_from first (b.items ++ c ∷ []) ≡ cycles_from first b.items ++ begun (moment_at first b.items 0) c ∷ []
  all_is = begun-snoc first b.items c ∙ ap (λ (ds : List KeptCycle). cycles_from first b.items ++ begun (led_from first ds) c ∷ []) (sym (take_all b.items))

  cycles_are : cycles_from first' kept ≡ keep_last b.capacity (cycles_from first b.items ++ begun (moment_at first b.items 0) c ∷ [])
  cycles_are =
      ap (λ (m : Moment). cycles_from m kept) first_is
      ∙ (begun-drop (length (b.items ++ c ∷ []) - b.capacity) first (b.items ++ c ∷ [])
      ∙ (ap (λ (n : ℕ). drop (n - b.capacity) (cycles_from first (b.items ++ c ∷ []))) (sym (begun-length first (b.items ++ c ∷ [])))
      ∙ ap (λ (xs : List Cycle). keep_last b.capacity xs) all_is))

  moment_is : moment_at first' kept 0 ≡ c.after
  moment_is =
      ap (λ (ds : List KeptCycle). led_from first' ds) (take_all kept)
      ∙ (ap (λ (m : Moment). led_from m kept) first_is
      ∙ (led-drop (length (b.items ++ c ∷ []) - b.capacity) first (b.items ++ c ∷ []) ∙ led-snoc first b.items c))

  pub placed_ahead : AreKept first' (buffer kept b.capacity) 0 words'
  placed_ahead =
      subst (λ (m : Moment). IsHistory (buffer (cycles_from first' kept) b.capacity) 0 m words') (sym moment_is)
      (subst (λ (xs : List Cycle). IsHistory (buffer xs b.capacity) 0 c.after words') (sym cycles_are)
      (is_ahead (begun_at first b) (moment_at first b.items 0) c.after words words' (begun (moment_at first b.items 0) c) h f))

  pub goes_ahead : view_from first' (buffer kept b.capacity) 0 words'
      ≡ appended (view_from first b 0 words) (record { moment = c.after; words = words' })
  goes_ahead =
      ap (λ (m : Moment). view_of (buffer (cycles_from first' kept) b.capacity) 0 m words') moment_is
      ∙ (ap (λ (xs : List Cycle). view_of (buffer xs b.capacity) 0 c.after words') cycles_are
      ∙ went_ahead (begun_at first b) (moment_at first b.items 0) c.after words words' (begun (moment_at first b.items 0) c) h f)
