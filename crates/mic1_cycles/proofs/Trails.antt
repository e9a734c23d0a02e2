-- Memory after writes.
use Rattle.mic1_cycles.proofs.Common.{◌≡◌, ◌≢◌, ℕ, ◌+◌, ◌<◌, ◌≤◌, ◌%◌, ◌/◌, List, [], ◌∷◌, ◌++◌, length, take, get_or, refl, ap, ◌∙◌, arith, slice_index}
use Rattle.mic1_cycles.proofs.Common.{slice_set, All, All-head, All-tail, byte_in, byte_of, Write, written_by, given_by}
use Rattle.std.proofs.lemmas.List.{take_more, length-set, get_or-set_other}

module _ (word : ℕ → ℕ) where
  pub written_push : (ws : List Write) (w : Write) (words : List ℕ) →
      written_by word (ws ++ w ∷ []) words ≡ slice_set (written_by word ws words) (word w.at) (word w.value)
  written_push [] w words = refl
  written_push (x ∷ ws) w words = written_push ws w (slice_set words (word x.at) (word x.value))

  pub size_kept : (ws : List Write) (words : List ℕ) → length (written_by word ws words) ≡ length words
  size_kept [] words = refl
  size_kept (x ∷ ws) words = size_kept ws (slice_set words (word x.at) (word x.value)) ∙ length-set words (word x.at) (word x.value)

  -- words below the writes are as they were
  pub read_below : (ws : List Write) (words : List ℕ) (at : ℕ) → at < 0x8000 → All (λ w. 0x8000 ≤ word w.at) ws →
      slice_index (written_by word ws words) at ≡ slice_index words at
  read_below [] words at h all = refl
  read_below (x ∷ ws) words at h all =
      let P : Write → Type 0 = λ w. 0x8000 ≤ word w.at in
      let above : 0x8000 ≤ word x.at = All-head P x ws all in
      let other : at ≢ word x.at = λ e. absurd (omega (arith, e, above, h)) in
      read_below ws (slice_set words (word x.at) (word x.value)) at h (All-tail P x ws all)
      ∙ get_or-set_other words (word x.at) at (word x.value) 0 other

  pub byte_below : (ws : List Write) (words : List ℕ) (at : ℕ) → at < 0x20000 → All (λ w. 0x8000 ≤ word w.at) ws →
      byte_in (written_by word ws words) at ≡ byte_in words at
  unfolding byte_in
  byte_below ws words at h all =
      let below : at / 4 < 0x8000 = omega (arith, h) in
      ap (λ (x : ℕ). byte_of x (at % 4)) (read_below ws words (at / 4) below all)

  pub given_push : (vs : List ℕ) (v : ℕ) → given_by word (vs ++ v ∷ []) ≡ given_by word vs ++ (word v % 256) ∷ []
  given_push [] v = refl
  given_push (x ∷ vs) v = ap (λ (rest : List ℕ). word x % 256 ∷ rest) (given_push vs v)

  -- the words after one more write
  pub one_more : (ws : List Write) (words : List ℕ) (i : ℕ) (d : Write) → i < length ws →
      written_by word (take (i + 1) ws) words ≡ slice_set (written_by word (take i ws) words) (word (get_or ws i d).at) (word (get_or ws i d).value)
  one_more ws words i d h =
      ap (λ (xs : List Write). written_by word xs words) (take_more ws i d h) ∙ written_push (take i ws) (get_or ws i d) words
