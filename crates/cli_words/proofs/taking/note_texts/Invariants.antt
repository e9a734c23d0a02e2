use Rattle.cli_words.proofs.Common.{ℕ, ◌<◌, IsUtf8, String, string_bytes, Global, slice_index_or}
use Rattle.cli_words.proofs.taking.note_texts.Given as goal

abbrev pub invariant-loop-word : goal.invariant-loop-word
invariant-loop-word l = (k : ℕ) (d : String Global) → k < l.word-index → IsUtf8 (string_bytes (slice_index_or l.words k d))
