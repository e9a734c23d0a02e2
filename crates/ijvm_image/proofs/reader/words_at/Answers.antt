use Rattle.std.proofs.Common.{◌≡◌, ◌+◌, ◌*◌, [], ◌∷◌, ◌++◌}
use Rattle.ijvm_image.specs.Prelude.{word_at, words_at}
use Rattle.ijvm_image.proofs.Files.{words_at-more}
use Rattle.ijvm_image.proofs.reader.words_at.Goals as goal

pub loop-i-preserved : goal.loop-i-preserved
loop-i-preserved c =
    let pushed : c.push.new.self.items ≡ c.loop-i.words.items ++ c.word_at.result ∷ [] = c.in_ok-push.ensures.items in
    let read : c.word_at.result ≡ word_at c.args.file.now (c.args.place + 4 * c.loop-i.i) = c.word_at.ensures in
    let more : words_at c.args.file.now c.args.place (c.loop-i.i + 1) ≡ words_at c.args.file.now c.args.place c.loop-i.i ++ word_at c.args.file.now (c.args.place + 4 * c.loop-i.i) ∷ [] =
    words_at-more c.args.file.now c.args.place c.loop-i.i in
    let so_far : c.loop-i.words.items ≡ words_at c.args.file.now c.args.place c.loop-i.i = c.loop-i.invariant in
    cc
