use Rattle.std.proofs.Common.{◌≡◌, ◌-◌, ◌/◌, ℕ, length, take, drop, ap, ◌∙◌, arith}
use Rattle.std.proofs.lemmas.List.{length-take}
use Rattle.ijvm_image.proofs.Files.{length-words_at}
use Rattle.ijvm_image.proofs.reader.image_of.Goals as goal

pub new-requires : goal.new-requires
new-requires c =
    let n : ℕ = (c.args.pool.to - c.args.pool.from) / 4 in
    let words : length c.in_ok-words.words.items ≡ n = ap length c.in_ok-words.ensures ∙ length-words_at c.args.file.now c.args.pool.from n in
    let bytes : c.in_ok-bytes.bytes.items ≡ take (c.args.text.to - c.args.text.from) (drop c.args.text.from c.args.file.now) = c.in_ok-bytes.ensures.items in
    record {
      text_fits = omega (arith, ap length bytes, length-take (c.args.text.to - c.args.text.from) (drop c.args.text.from c.args.file.now));
      pool_fits = omega arith;
    }
