use Rattle.mic1_cycles.proofs.Common.{◌≡◌, ◌/◌, ℕ, List, ap, ◌∙◌, arith, slice_index, written_by}
use Rattle.mic1_cycles.proofs.access.byte_at.Goals as goal

pub returns-clause-value : goal.returns-clause-value
returns-clause-value c e fits knows inside =
    let at = c.args.at in
    let quarter = c.in_ok-quarter.quarter in
    let word = c.in_ok-word.word in
    let words : List ℕ = written_by e.word c.args.writes.now e.start.words in
    let fits1 = c.in_ok-whole.ensures.grows e fits in
    let q : e.word quarter ≡ e.word at / 4 = c.in_ok-quarter.ensures.value e (c.in_ok-word.ensures.grows e fits1) in
    let w : e.word word ≡ slice_index words (e.word quarter) = c.in_ok-word.ensures.value e fits1 knows (omega (arith, q, inside)) in
    c.in_ok-whole.ensures.value e fits words (w ∙ ap (λ (k : ℕ). slice_index words k) q)
