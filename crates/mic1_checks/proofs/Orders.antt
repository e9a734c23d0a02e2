-- Writes in another order.
use Rattle.mic1_checks.proofs.Common.{◌≡◌, ◌≢◌, ◌==◌, ℕ, true, false, inl, inr, sym, zero, suc, ◌<◌, ◌+◌, List, [], ◌∷◌, ◌++◌, length, take, get_or, refl, ap}
use Rattle.mic1_checks.proofs.Common.{◌∙◌, arith, slice_index_or, slice_set, All, Any, remove, cases_Bool, Decides-eqb, set-set, take_more, All-head, All-tail}
use Rattle.mic1_checks.proofs.Common.{Write, written_by}

-- of two places the order does not matter
exchanged : (words : List ℕ) (i j a b : ℕ) → i ≢ j → slice_set (slice_set words i a) j b ≡ slice_set (slice_set words j b) i a
exchanged [] i j a b h = refl
exchanged (x ∷ xs) zero zero a b h = absurd (h refl)
exchanged (x ∷ xs) zero (suc j) a b h = refl
exchanged (x ∷ xs) (suc i) zero a b h = refl
exchanged (x ∷ xs) (suc i) (suc j) a b h = ap (λ (ys : List ℕ). x ∷ ys) (exchanged xs i j a b (λ e. h (ap suc e)))

again : (words : List ℕ) (i j a b : ℕ) → i ≡ j → slice_set (slice_set words i a) j b ≡ slice_set words j b
again words i j a b e = ap (λ (k : ℕ). slice_set (slice_set words k a) j b) e ∙ set-set words j a b

module _ (word : ℕ → ℕ) where
  abbrev pub IsApart : Write → Write → Type 0
  IsApart w x = word x.at ≢ word w.at

  -- a write may be the first one, if those before it are at other addresses
  pub taken_out : (w d : Write) (xs : List Write) (i : ℕ) → i < length xs → get_or xs i d ≡ w → All (IsApart w) (take i xs) → (words : List ℕ) →
      written_by word xs words ≡ written_by word (w ∷ remove xs i) words
  taken_out w d [] i within is apart words = absurd (omega (arith, within))
  taken_out w d (x ∷ xs) zero within is apart words = ap (λ (y : Write). written_by word (y ∷ xs) words) is
  taken_out w d (x ∷ xs) (suc i) within is apart words =
      taken_out w d xs i (omega (arith, within)) is (All-tail (IsApart w) x (take i xs) apart) (slice_set words (word x.at) (word x.value))
      ∙ ap (λ (ys : List ℕ). written_by word (remove xs i) ys)
      (exchanged words (word x.at) (word w.at) (word x.value) (word w.value) (All-head (IsApart w) x (take i xs) apart))

  pub written_append : (xs ys : List Write) (words : List ℕ) → written_by word (xs ++ ys) words ≡ written_by word ys (written_by word xs words)
  written_append [] ys words = refl
  written_append (x ∷ xs) ys words = written_append xs ys (slice_set words (word x.at) (word x.value))

  -- the words after one more write
  pub one_more : (ws : List Write) (i : ℕ) (d : Write) → i < length ws → (words : List ℕ) →
      written_by word (take (i + 1) ws) words ≡ written_by word (get_or ws i d ∷ []) (written_by word (take i ws) words)
  one_more ws i d within words =
      ap (λ (xs : List Write). written_by word xs words) (take_more ws i d within) ∙ written_append (take i ws) (get_or ws i d ∷ []) words

  -- a write that a later one undoes
  undone : (at v : ℕ) (xs : List Write) (k : ℕ) (x : Write) → k < length xs → slice_index_or xs k x ≡ x → x.at ≡ at → (words : List ℕ) →
      written_by word xs (slice_set words (word at) v) ≡ written_by word xs words
  undone at v [] k x inside is same words = absurd (omega (arith, inside))
  undone at v (y ∷ ys) zero x inside is same words =
      ap (λ (m : List ℕ). written_by word ys m) (again words (word at) (word y.at) v (word y.value) (ap word (sym same ∙ ap (λ (w : Write). w.at) (sym is))))
  undone at v (y ∷ ys) (suc k) x inside is same words = elim (cases_Bool (word at == word y.at)) [
    | inl hit ↦ ap (λ (m : List ℕ). written_by word ys m) (again words (word at) (word y.at) v (word y.value) ((Decides-eqb (word at) (word y.at)).0 hit))
    | inr not_hit ↦
        let other : word at ≢ word y.at = λ e. let both : true ≡ false = sym ((Decides-eqb (word at) (word y.at)).1 e) ∙ not_hit in cc in
        ap (λ (m : List ℕ). written_by word ys m) (exchanged words (word at) (word y.at) v (word y.value) other)
        ∙ undone at v ys k x (omega (arith, inside)) is same (slice_set words (word y.at) (word y.value))
  ]

  pub without : (at v : ℕ) (xs : List Write) → Any (λ w. w.at ≡ at) xs → (words : List ℕ) →
      written_by word xs (slice_set words (word at) v) ≡ written_by word xs words
  without at v xs any words = undone at v xs any.0 any.1 any.2 any.3 any.4 words
