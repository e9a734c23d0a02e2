-- The lines of a control store stay those of its words.
use Rattle.micro_word.proofs.Common.{◌≡◌, ℕ, ◌<◌, IsTrue, List, length, replicate, slice_index, slice_set, get_or, subst, sym, inl, inr, get_or-set_same}
use Rattle.micro_word.proofs.Common.{get_or-set_other, get_or-replicate, cases_eq, Machine, Lines}
use Rattle.micro_word.specs.Prelude.{fields_of, AreLines, AreCanonical, AreDecoded, is_canonical}

both : (machine : Machine) (w v : ℕ) (l k : Lines) → w ≡ v → l ≡ k → AreLines machine (fields_of machine v) k → AreLines machine (fields_of machine w) l
both machine w v l k words lines are =
    subst (λ (x : ℕ). AreLines machine (fields_of machine x) l) (sym words) (subst (λ (x : Lines). AreLines machine (fields_of machine v) x) (sym lines) are)

pub decoded_everywhere : (machine : Machine) (w : ℕ) (l : Lines) → AreLines machine (fields_of machine w) l → AreDecoded machine (replicate 512 w) (replicate 512 l)
decoded_everywhere machine w l are address h d =
    both machine _ w _ l (get_or-replicate 512 address w 0 h) (get_or-replicate 512 address l d h) are

pub decoded_there : (machine : Machine) (words : List ℕ) (lines : List Lines) (at w : ℕ) (l : Lines) → length words ≡ 512 → length lines ≡ 512 → at < 512 →
    AreDecoded machine words lines → AreLines machine (fields_of machine w) l → AreDecoded machine (slice_set words at w) (slice_set lines at l)
decoded_there machine words lines at w l words_long lines_long within old are address h d =
    elim (cases_eq address at) [
      | inl same ↦
          both machine _ w _ l (subst (λ (x : ℕ). slice_index (slice_set words at w) x ≡ w) (sym same) (get_or-set_same words at w 0 (rw words_long within)))
          (subst (λ (x : ℕ). get_or (slice_set lines at l) x d ≡ l) (sym same) (get_or-set_same lines at l d (rw lines_long within))) are
      | inr other ↦
          both machine _ (slice_index words address) _ (get_or lines address d) (get_or-set_other words at address w 0 other) (get_or-set_other lines at address l d other) (old address h d)
    ]

-- a changed store stays canonical
pub canonical_there : (machine : Machine) (words : List ℕ) (at w : ℕ) → length words ≡ 512 → at < 512 →
    AreCanonical machine words → IsTrue (is_canonical machine w) → AreCanonical machine (slice_set words at w)
canonical_there machine words at w long within old is address h =
    elim (cases_eq address at) [
      | inl same ↦
          subst (λ (x : ℕ). IsTrue (is_canonical machine x)) (sym (subst (λ (x : ℕ). slice_index (slice_set words at w) x ≡ w) (sym same) (get_or-set_same words at w 0 (rw long within)))) is
      | inr other ↦ subst (λ (x : ℕ). IsTrue (is_canonical machine x)) (sym (get_or-set_other words at address w 0 other)) (old address h)
    ]
