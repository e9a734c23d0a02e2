use Rattle.cli_words.proofs.Common.{◌≡◌, ◌<◌, ◌+◌, ℕ, List, length, IsUtf8, subst, inl, inr, arith, String, string_bytes, Global, slice_index_or, cases_lt}
use Rattle.cli_words.proofs.Common.{get_or_default}
use Rattle.cli_words.proofs.taking.note_texts.Goals as goal

-- what holds of each place below i, and of the place i at one default, holds of each below i + 1
one_more : {A : Type 0} (words : List (String A)) (i : ℕ) (e : String A) → i < length words
    → ((k : ℕ) (d : String A) → k < i → IsUtf8 (string_bytes (slice_index_or words k d))) → IsUtf8 (string_bytes (slice_index_or words i e))
    → (k : ℕ) (d : String A) → k < i + 1 → IsUtf8 (string_bytes (slice_index_or words k d))
one_more words i e lt below here k d low = elim (cases_lt k i) [
  | inl under ↦ below k d under
  | inr over ↦
      let same : k ≡ i = omega arith in
      rw (same, get_or_default words i d e lt) here
]

pub loop-word-preserved : goal.loop-word-preserved
loop-word-preserved c =
    let here : IsUtf8 (string_bytes (slice_index_or c.args.words.now c.loop-word.word-index c.word-item.result)) =
    subst (λ (w : String Global). IsUtf8 (string_bytes w)) c.word-item.is c.note_text.ensures in
    one_more c.args.words.now c.loop-word.word-index c.word-item.result c.loop-word-test.true c.loop-word.invariant here
