use Rattle.std.proofs.Common.{◌≡◌, ◌++◌, take}
use Rattle.std.specs.List.{flat_map}
use Rattle.ijvm_image.specs.Prelude.{word_bytes}
use Rattle.ijvm_image.proofs.writer.push_words.Given as goal

abbrev pub invariant-loop-word : goal.invariant-loop-word
invariant-loop-word l = l.file.items ≡ l.initial.file.items ++ flat_map word_bytes (take l.word-index l.words)
