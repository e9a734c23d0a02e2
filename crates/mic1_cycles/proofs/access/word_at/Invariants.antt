use Rattle.mic1_cycles.proofs.Common.{◌≡◌, ◌<◌, length, take, slice_index, Holds, Grows, written_by, Knows}
use Rattle.mic1_cycles.proofs.access.word_at.Given as goal

abbrev pub invariant-loop-write : goal.invariant-loop-write
invariant-loop-write l =
    record {
      value : Holds l.nodes (λ e. Knows e l.known → e.word l.at < length e.start.words → e.word l.word ≡ slice_index (written_by e.word (take l.write-index l.writes) e.start.words) (e.word l.at));
      grows : Grows l.fn.nodes l.nodes;
    }
