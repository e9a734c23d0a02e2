-- What a history keeps of a board that was clocked.
use Rattle.std.proofs.Common.{◌≡◌, ◌∙◌, sym, ap, subst, refl, ℕ, zero, suc, ◌≤◌, ◌+◌, ◌-◌, ◌++◌, drop, length, arith, rules, Bool, true, false, if◌then◌else◌, List, [], ◌∷◌, Option, Some, None, IsSome, slice_get}
use Rattle.mic_rewind.proofs.Common.{ChangesOnly, Meaning, BoardView, EndsUncounted, IsCounted, Counts, End, Moment, Snapshot, stored, GoesBack, HistoryView}
use Rattle.mic_rewind.proofs.Common.{appended, HasAddress, HaveAddresses, IsRewind, moment_of, state_of, newest, last_of}
use Rattle.mic_rewind.proofs.Changes.{stored_is}

pub emptied : (ss : List Snapshot) → length ss ≤ 0 → ss ≡ []
emptied [] l = refl
emptied (s ∷ ss) l = grind arith

-- ---- MPC is an address in each state

pub addresses_more : (ss : List Snapshot) (s : Snapshot) → HaveAddresses ss → HasAddress s → HaveAddresses (ss ++ s ∷ [])
addresses_more [] s all one = (one, tt)
addresses_more (t ∷ ss) s all one = (all.0, addresses_more ss s all.1 one)

addresses_drop : (n : ℕ) (ss : List Snapshot) → HaveAddresses ss → HaveAddresses (drop n ss)
addresses_drop zero ss all = all
addresses_drop (suc n) [] all = tt
addresses_drop (suc n) (s ∷ ss) all = addresses_drop n ss all.1

-- MPC is an address in the state that was kept last, and in those before it
pub addresses_less : (ss : List Snapshot) (s : Snapshot) → HaveAddresses (ss ++ s ∷ []) → HaveAddresses ss × HasAddress s
addresses_less [] s all = (tt, all.0)
addresses_less (t ∷ ss) s all = let rest = addresses_less ss s all.1 in ((all.0, rest.0), rest.1)

pub addresses_kept : (h : HistoryView) (s : Snapshot) → HaveAddresses h.before → HasAddress h.here → HaveAddresses (appended h s).before
addresses_kept h s before here =
    addresses_drop (length (h.before ++ h.here ∷ []) - h.depth) (h.before ++ h.here ∷ []) (addresses_more h.before h.here before here)

-- the cursor goes back, and forward again
pub addresses_back : (old new : HistoryView) → GoesBack old new → HaveAddresses old.before → HasAddress old.here → HaveAddresses old.after →
    HaveAddresses new.before × HasAddress new.here × HaveAddresses new.after
addresses_back old new went before here after =
    let less = addresses_less new.before new.here (subst HaveAddresses went.before before) in
    (less.0, less.1, subst HaveAddresses (sym went.after) (here, after))

pub addresses_forth : (old new : HistoryView) → GoesBack new old → HaveAddresses old.before → HasAddress old.here → HaveAddresses old.after →
    HaveAddresses new.before × HasAddress new.here × HaveAddresses new.after
addresses_forth old new went before here after =
    let more = subst HaveAddresses went.after after in
    (subst HaveAddresses (sym went.before) (addresses_more old.before old.here before here), more.0, more.1)

pub newest_here : (h : HistoryView) → h.after ≡ [] → newest h ≡ h.here
newest_here h e = ap (λ (ss : List Snapshot). last_of h.here ss) e

live_by : {M : Type 0} (old new : BoardView M) (o : Option End) → old.end ≡ o → ((e : End) → old.end ≡ Some e → new ≡ old) → new.end ≡ None → old.end ≡ None
live_by old new None e same none = e
live_by old new (Some x) e same none = ap (λ (b : BoardView _). b.end) (sym (same x e)) ∙ none

-- a board that has not ended after a call had not ended before it
pub live : {M : Type 0} (old new : BoardView M) → ((e : End) → old.end ≡ Some e → new ≡ old) → new.end ≡ None → old.end ≡ None
live old new same none = live_by old new old.end refl same none

module _ {M State : Type 0} (state : M → State) (m : Meaning State) where
  newest_back : (old new : HistoryView) → GoesBack old new → newest new ≡ newest old
  newest_back old new went = ap (λ (ss : List Snapshot). last_of new.here ss) went.after

  back_by : (board : BoardView M) (old new : HistoryView) → GoesBack old new → IsRewind state m board old → IsRewind state m board new
  back_by board old new went is =
      let all = addresses_back old new went is.before is.here is.after in
      record {
        words = ap (λ (s : Snapshot). s.words) (newest_back old new went) ∙ is.words;
        moment = λ none. ap (λ (s : Snapshot). s.moment) (newest_back old new went) ∙ is.moment none;
        before = all.0;
        here = all.1;
        after = all.2;
      }

  -- a step back keeps the newest state
  pub back_keeps : (board : BoardView M) (old new : HistoryView) (went : Bool) → (went ≡ true → GoesBack old new) → (went ≡ false → (old.before ≡ []) × (new ≡ old)) →
      IsRewind state m board old → IsRewind state m board new
  back_keeps board old new true went stayed is = back_by board old new (went refl) is
  back_keeps board old new false went stayed is = subst (λ (h : HistoryView). IsRewind state m board h) (sym (stayed refl).1) is

  newest_forth : (old new : HistoryView) → GoesBack new old → newest new ≡ newest old
  newest_forth old new went = sym (ap (λ (ss : List Snapshot). last_of old.here ss) went.after)

  -- a step forward over a kept cycle keeps the newest state too
  pub forth_keeps : (board : BoardView M) (old new : HistoryView) → GoesBack new old → IsRewind state m board old → IsRewind state m board new
  forth_keeps board old new went is =
      let all = addresses_forth old new went is.before is.here is.after in
      record {
        words = ap (λ (s : Snapshot). s.words) (newest_forth old new went) ∙ is.words;
        moment = λ none. ap (λ (s : Snapshot). s.moment) (newest_forth old new went) ∙ is.moment none;
        before = all.0;
        here = all.1;
        after = all.2;
      }

  counted : (b : Bool) (c at between : Counts) → at.cycles ≡ c.cycles + 1 → between.cycles ≡ c.cycles + 1 → (if b then at else between).cycles ≡ c.cycles + 1
  counted true c at between p q = p
  counted false c at between p q = q

  grown : (e : Option End) (now before : ℕ) → (e ≡ None → now ≡ before + 1) → (IsSome e → now ≡ before) → now ≤ before + 1
  grown None now before p q = let is = p refl in omega (arith, is)
  grown (Some e) now before p q = let is = q (search rules) in omega (arith, is)

  -- a turn clocks at most one cycle
  pub grown_by : (old new : BoardView M) → IsCounted state m old new → EndsUncounted old new → new.counts.cycles ≤ old.counts.cycles + 1
  grown_by old new is_counted ends =
      grown new.end new.counts.cycles old.counts.cycles
      (λ none. ap (λ (c : Counts). c.cycles) (is_counted none).1 ∙ counted (m.is_boundary (state new.machine)) old.counts _ _ refl refl)
      (λ some. (ends some).0)

  -- the state that a clocked cycle leaves follows from the memory before it and the word at MAR
  pub left_by : (old new : BoardView M) (words : List ℕ) (after : Moment) (word : Option ℕ) →
      after ≡ moment_of state m new → word ≡ slice_get new.bus.words after.registers.mar → words ≡ old.bus.words →
      ChangesOnly (m.registers (state new.machine)).mar old.bus.words new.bus.words →
      record { moment = after; words = stored after.registers.mar word words } ≡ state_of state m new
  left_by old new words after word a w ws ch =
      let mar : after.registers.mar ≡ (m.registers (state new.machine)).mar = ap (λ (x : Moment). x.registers.mar) a in
      let is : stored after.registers.mar word words ≡ stored after.registers.mar (slice_get new.bus.words after.registers.mar) old.bus.words =
      ap (λ (o : Option ℕ). stored after.registers.mar o words) w ∙ ap (λ (xs : List ℕ). stored after.registers.mar (slice_get new.bus.words after.registers.mar) xs) ws in
      let all : stored after.registers.mar word words ≡ new.bus.words =
      is ∙ (ap (λ (n : ℕ). stored n (slice_get new.bus.words n) old.bus.words) mar ∙ stored_is _ old.bus.words new.bus.words ch) in
      ap (λ (xs : List ℕ). record { moment = after; words = xs }) all ∙ ap (λ (x : Moment). record { moment = x; words = new.bus.words }) a
