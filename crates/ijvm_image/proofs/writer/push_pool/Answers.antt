use Rattle.std.proofs.Common.{◌≡◌, ℕ, ◌*◌, List, ◌++◌, length, append_assoc, ap, sym, ◌∙◌}
use Rattle.std.specs.List.{flat_map}
use Rattle.ijvm_image.specs.Prelude.{word_bytes}
use Rattle.ijvm_image.proofs.Files.{length-words}
use Rattle.ijvm_image.proofs.writer.push_pool.Goals as goal

pub returns : goal.returns
returns c =
    let words : List ℕ = flat_map word_bytes c.args.pool.now in
    let old : List ℕ = c.args.file.now.items in
    let size : ℕ = 4 * length c.args.pool.now in
    let head : c.push_head.new.file.items ≡ old ++ (word_bytes 0x10000 ++ word_bytes size) = c.in_ok-push_head.ensures in
    let all : c.push_words.new.file.items ≡ c.push_head.new.file.items ++ words = c.in_ok-push_words.ensures in
    all
    ∙ ap (λ (xs : List ℕ). xs ++ words) head
    ∙ append_assoc old (word_bytes 0x10000 ++ word_bytes size) words
    ∙ ap (λ (n : ℕ). old ++ (word_bytes 0x10000 ++ (word_bytes n ++ words))) (sym (length-words c.args.pool.now))
