use Rattle.std.proofs.Common.{◌≡◌}
use Rattle.ijvm_image.specs.Prelude.{words_at}
use Rattle.ijvm_image.proofs.reader.words_at.Given as goal

abbrev pub invariant-loop-i : goal.invariant-loop-i
invariant-loop-i l = l.words.items ≡ words_at l.file l.place l.i
