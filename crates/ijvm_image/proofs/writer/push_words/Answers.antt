use Rattle.std.proofs.Common.{◌≡◌, ◌<◌, ℕ, List, ◌++◌, length, take, slice_index, append_assoc, ap, sym, ◌∙◌, arith}
use Rattle.std.specs.List.{flat_map}
use Rattle.ijvm_image.specs.Prelude.{word_bytes}
use Rattle.ijvm_image.proofs.Files.{flat_words-more}
use Rattle.ijvm_image.proofs.writer.push_words.Goals as goal

pub loop-word-preserved : goal.loop-word-preserved
loop-word-preserved c =
    let words : List ℕ = c.args.words.now in
    let i : ℕ = c.loop-word.word-index in
    let inside : i < length words = omega arith in
    let old : List ℕ = c.args.file.now.items in
    let pushed : c.push_word.new.file.items ≡ c.loop-word.file.items ++ word_bytes (slice_index words i) = c.in_ok-push_word.ensures in
    pushed
    ∙ ap (λ (xs : List ℕ). xs ++ word_bytes (slice_index words i)) c.loop-word.invariant
    ∙ append_assoc old (flat_map word_bytes (take i words)) (word_bytes (slice_index words i))
    ∙ ap (λ (xs : List ℕ). old ++ xs) (sym (flat_words-more words i inside))
