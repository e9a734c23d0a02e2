use Rattle.mic1_cycles.proofs.Common.{ℕ, ◌<◌, List, length, take, sym, ap, ◌∙◌, arith, slice_index, Fits, Write, written_by}
use Rattle.mic1_cycles.proofs.Trails.{one_more, size_kept}
use Rattle.mic1_cycles.proofs.access.word_at.Goals as goal

pub loop-write-preserved : goal.loop-write-preserved
loop-write-preserved c =
    let ws = c.args.writes.now in
    let at = c.args.at in
    let k = c.loop-write.write-index in
    let none : Write = record { at = 0; value = 0 } in
    let more : k < length ws = omega (arith, c.loop-write-test.true) in
    record {
      value = λ e fits knows inside.
          let before : Fits e c.loop-write.nodes.nodes.items = c.in_ok-word-2.ensures.grows e fits in
          let words : List ℕ = written_by e.word (take k ws) e.start.words in
          c.in_ok-word-2.ensures.value e fits knows words (omega (arith, size_kept e.word (take k ws) e.start.words, inside)) (c.loop-write.invariant.value e before knows inside)
          ∙ ap (λ (xs : List ℕ). slice_index xs (e.word at)) (sym (one_more e.word ws e.start.words k none more));
      grows = λ e fits. c.loop-write.invariant.grows e (c.in_ok-word-2.ensures.grows e fits);
    }
