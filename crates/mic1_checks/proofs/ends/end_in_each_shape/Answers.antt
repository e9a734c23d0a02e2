use Rattle.mic1_checks.proofs.Common.{◌≡◌, Ok, After, Shape, EndsAfter}
use Rattle.mic1_checks.proofs.Shapes.{any_shape}
use Rattle.mic1_checks.proofs.ends.end_in_each_shape.Goals as goal

pub returns : goal.returns
returns c n is shape =
    let e = c.args.ending in
    let after : c.both-3.result ≡ After n = cc in
    let all = c.both-3.ensures n after in
    let first = c.both.ensures n all.0 in
    let second = c.both-2.ensures n all.1 in
    any_shape (λ (sh : Shape). EndsAfter e.opcode e.address sh c.args.stores.now.other.now.words c.args.stores.now.other_entry n)
    (c.in_ok-settled.ensures n (λ j. Ok (first.0 j)))
    (c.in_ok-with_word.ensures n (λ j. Ok (first.1 j)))
    (c.in_ok-with_byte.ensures n (λ j. Ok (second.0 j)))
    (c.in_ok-with_both.ensures n (λ j. Ok (second.1 j))) shape.byte shape.word
