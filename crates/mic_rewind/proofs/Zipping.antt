-- The cursor among kept cycles: what moves it, and what appends to them.
use Rattle.std.proofs.Common.{◌≡◌, ◌∙◌, sym, ap, subst, refl, ℕ, zero, suc, ◌+◌, ◌-◌, ◌<◌, ◌≤◌, List, [], ◌∷◌, ◌++◌, length, take, drop, get_or, length-drop, arith, Some, None}
use Rattle.mic_rewind.proofs.Common.{common_steps, slice_get, IsSome, take-suc, drop-cons, get_or_from_slice_get, slice_get_within, Buffer, buffer, keep_last}
use Rattle.mic_rewind.proofs.Common.{tick_of, Moment, Cycle, undone, redone, states_before, states_after, Fits, LeadTo, LeadFrom, GoesBack, appended, past}
use Rattle.mic_rewind.proofs.Common.{future, view_of, IsHistory}
use Rattle.mic_rewind.proofs.Tracks.{states_before-snoc, states_before-length, states_after-length, states_before-drop, LeadTo-drop, LeadTo-last, LeadTo-front, LeadTo-snoc, back-before, back-after, back-leads}

-- the items around the cycle at a place
taken : (cs : List Cycle) (k : ℕ) (c : Cycle) → slice_get cs k ≡ Some c → take (k + 1) cs ≡ take k cs ++ c ∷ []
taken cs k c h =
    let inside : k < length cs = slice_get_within cs k c h in
    let e : get_or cs k c ≡ c = get_or_from_slice_get cs k c c h in
    let t : take (suc k) cs ≡ take k cs ++ get_or cs k c ∷ [] = take-suc cs k c inside in
    let s : k + 1 ≡ suc k = omega arith in
    rw (s, t, e) refl

dropped : (cs : List Cycle) (k : ℕ) (c : Cycle) → slice_get cs k ≡ Some c → drop k cs ≡ c ∷ drop (k + 1) cs
dropped cs k c h =
    let inside : k < length cs = slice_get_within cs k c h in
    let e : get_or cs k c ≡ c = get_or_from_slice_get cs k c c h in
    let t : drop k cs ≡ get_or cs k c ∷ drop (suc k) cs = drop-cons cs k c inside in
    let s : k + 1 ≡ suc k = omega arith in
    rw (s, t, e) refl

module _ (b : Buffer Cycle) (behind : ℕ) (m : Moment) (words : List ℕ) (c : Cycle) where
  -- going back over the cycle before the cursor
  module _ (h : IsHistory b behind m words) (some : 0 < length b.items - behind) (is : slice_get b.items (length b.items - behind - 1) ≡ Some c) where
    past_is : past b behind ≡ past b (behind + 1) ++ c ∷ []
    past_is =
        let k : length b.items - behind - 1 + 1 ≡ length b.items - behind = omega arith in
        let j : length b.items - behind - 1 ≡ length b.items - (behind + 1) = omega arith in
        let t = taken b.items (length b.items - behind - 1) c is in
        rw (← k) (rw (← j) t)

    future_is : future b (behind + 1) ≡ c ∷ future b behind
    future_is =
        let k : length b.items - behind - 1 + 1 ≡ length b.items - behind = omega arith in
        let j : length b.items - behind - 1 ≡ length b.items - (behind + 1) = omega arith in
        let t = dropped b.items (length b.items - behind - 1) c is in
        rw (← k) (rw (← j) t)

    fits_back : Fits c c.before m (undone c.written words) words
    fits_back = LeadTo-last (past b (behind + 1)) c m words (subst (λ (cs : List Cycle). LeadTo cs m words) past_is h.led)

    pub went_back : GoesBack (view_of b behind m words) (view_of b (behind + 1) c.before (undone c.written words))
    went_back = record {
      before = ap (λ (cs : List Cycle). states_before cs words) past_is ∙ back-before (past b (behind + 1)) c words;
      after = ap (λ (cs : List Cycle). states_after cs (undone c.written words)) future_is ∙ back-after (future b behind) c m words fits_back;
      depth = refl;
    }

    pub is_back : IsHistory b (behind + 1) c.before (undone c.written words)
    is_back = record {
      some = h.some;
      few = h.few;
      within = h.within;
      cursor = omega (arith, h.cursor);
      led = LeadTo-front (past b (behind + 1)) c m words (subst (λ (cs : List Cycle). LeadTo cs m words) past_is h.led);
      leads = subst (λ (cs : List Cycle). LeadFrom cs c.before (undone c.written words)) (sym future_is) (back-leads (future b behind) c m words fits_back h.leads);
    }

  -- going on over the cycle after the cursor
  module _ (h : IsHistory b behind m words) (some : 0 < behind) (is : slice_get b.items (length b.items - behind) ≡ Some c) where
    future_was : future b behind ≡ c ∷ future b (behind - 1)
    future_was =
        let cursor = h.cursor in
        let k : length b.items - (behind - 1) ≡ length b.items - behind + 1 = omega arith in
        rw (k) (dropped b.items (length b.items - behind) c is)

    past_was : past b (behind - 1) ≡ past b behind ++ c ∷ []
    past_was =
        let cursor = h.cursor in
        let k : length b.items - (behind - 1) ≡ length b.items - behind + 1 = omega arith in
        rw (k) (taken b.items (length b.items - behind) c is)

    led_on : LeadFrom (c ∷ future b (behind - 1)) m words
    led_on = subst (λ (cs : List Cycle). LeadFrom cs m words) future_was h.leads

    undoes : undone c.written (redone c.written words) ≡ words
    undoes = led_on.0.undoes

    pub went_on : GoesBack (view_of b (behind - 1) c.after (redone c.written words)) (view_of b behind m words)
    went_on =
        let e : states_before (past b (behind - 1)) (redone c.written words) ≡ states_before (past b behind ++ c ∷ []) (redone c.written words) =
        ap (λ (cs : List Cycle). states_before cs (redone c.written words)) past_was in
        let s = states_before-snoc (past b behind) c (redone c.written words) in
        record {
          before = e ∙ (s ∙ rw (undoes, led_on.0.before_is) refl);
          after = ap (λ (cs : List Cycle). states_after cs words) future_was;
          depth = refl;
        }

    pub ticked : c.tick ≡ tick_of m.counts c.after.counts None
    ticked = led_on.0.tick

    pub is_on : IsHistory b (behind - 1) c.after (redone c.written words)
    is_on =
        let led : LeadTo (past b behind) c.before (undone c.written (redone c.written words)) =
        subst (λ (x : Moment). LeadTo (past b behind) x (undone c.written (redone c.written words))) (sym led_on.0.before_is)
        (subst (λ (ws : List ℕ). LeadTo (past b behind) m ws) (sym undoes) h.led) in
        let fits : Fits c c.before c.after (undone c.written (redone c.written words)) (redone c.written words) =
        subst (λ (x : Moment). Fits c x c.after (undone c.written (redone c.written words)) (redone c.written words)) (sym led_on.0.before_is)
        (subst (λ (ws : List ℕ). Fits c m c.after ws (redone c.written words)) (sym undoes) led_on.0) in
        record {
          some = h.some;
          few = h.few;
          within = h.within;
          cursor = omega (arith, h.cursor);
          led = subst (λ (cs : List Cycle). LeadTo cs c.after (redone c.written words)) (sym past_was)
              (LeadTo-snoc (past b behind) c c.after (redone c.written words) led fits);
          leads = led_on.1;
        }

past_none : (b : Buffer Cycle) → past b 0 ≡ b.items
past_none b = grind (arith, common_steps)

future_none : (b : Buffer Cycle) → future b 0 ≡ []
future_none b = grind (arith, common_steps)

-- a cycle that leads on from the newest state
module _ (b : Buffer Cycle) (m m' : Moment) (words words' : List ℕ) (c : Cycle) (h : IsHistory b 0 m words) (f : Fits c m m' words words') where
  states_are : states_before (b.items ++ c ∷ []) words' ≡ states_before b.items words ++ record { moment = m; words = words } ∷ []
  states_are = states_before-snoc b.items c words' ∙ rw (f.undoes, f.before_is) refl

  led_by : LeadTo (b.items ++ c ∷ []) m' words'
  led_by =
      let led : LeadTo b.items m words = subst (λ (cs : List Cycle). LeadTo cs m words) (past_none b) h.led in
      let led' : LeadTo b.items c.before (undone c.written words') =
      subst (λ (x : Moment). LeadTo b.items x (undone c.written words')) (sym f.before_is) (subst (λ (ws : List ℕ). LeadTo b.items m ws) (sym f.undoes) led) in
      let fits : Fits c c.before m' (undone c.written words') words' =
      subst (λ (x : Moment). Fits c x m' (undone c.written words') words') (sym f.before_is) (subst (λ (ws : List ℕ). Fits c m m' ws words') (sym f.undoes) f) in
      LeadTo-snoc b.items c m' words' led' fits

  pub went_ahead : view_of (buffer (keep_last b.capacity (b.items ++ c ∷ [])) b.capacity) 0 m' words' ≡ appended (view_of b 0 m words) (record { moment = m'; words = words' })
  went_ahead =
      let p = past_none (buffer (keep_last b.capacity (b.items ++ c ∷ [])) b.capacity) in
      let q = future_none (buffer (keep_last b.capacity (b.items ++ c ∷ [])) b.capacity) in
      let o = past_none b in
      let n : length (states_before (b.items ++ c ∷ []) words') ≡ length (b.items ++ c ∷ []) = states_before-length (b.items ++ c ∷ []) words' in
      let d = states_before-drop (length (b.items ++ c ∷ []) - b.capacity) (b.items ++ c ∷ []) words' in
      let front : states_before (keep_last b.capacity (b.items ++ c ∷ [])) words' ≡ keep_last b.capacity (states_before b.items words ++ record { moment = m; words = words } ∷ []) =
      d ∙ rw (← n, states_are) refl in
      rw (p, q, o, front) refl

  pub is_ahead : IsHistory (buffer (keep_last b.capacity (b.items ++ c ∷ [])) b.capacity) 0 m' words'
  is_ahead = record {
    some = h.some;
    few = h.few;
    within = let e = length-drop (length (b.items ++ c ∷ []) - b.capacity) (b.items ++ c ∷ []) in omega (arith, e);
    cursor = omega arith;
    led = rw (past_none (buffer (keep_last b.capacity (b.items ++ c ∷ [])) b.capacity)) (LeadTo-drop (length (b.items ++ c ∷ []) - b.capacity) (b.items ++ c ∷ []) m' words' led_by);
    leads = rw (future_none (buffer (keep_last b.capacity (b.items ++ c ∷ [])) b.capacity)) tt;
  }

pub kept-length : (b : Buffer Cycle) (behind : ℕ) (words : List ℕ) → length (states_before (past b behind) words) ≡ length b.items - behind
kept-length b behind words = let e = states_before-length (past b behind) words in let l : length (past b behind) ≡ length b.items - behind = grind (arith, common_steps) in e ∙ l

pub behind-length : (b : Buffer Cycle) (behind : ℕ) (words : List ℕ) → behind ≤ length b.items → length (states_after (future b behind) words) ≡ behind
behind-length b behind words h =
    let e = states_after-length (future b behind) words in let l : length (future b behind) ≡ behind = let d = length-drop (length b.items - behind) b.items in omega arith in e ∙ l

pub is_there : {X : Type 0} (cs : List X) (i : ℕ) → i < length cs → IsSome (slice_get cs i)
is_there [] i h = grind arith
is_there (c ∷ cs) zero h = refl
is_there (c ∷ cs) (suc i) h = is_there cs i (omega arith)
