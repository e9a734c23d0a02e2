use Rattle.micro_terms.proofs.Common.{◌≡◌, ◌+◌, ◌*◌, ◌≤◌, ◌^◌, take, sum_by, share, limit_of}
use Rattle.micro_terms.proofs.Readings.{share_weight}
use Rattle.micro_terms.proofs.range.side_of.Given as goal

abbrev pub invariant-loop-part : goal.invariant-loop-part
invariant-loop-part l =
    (l.total ≡ share l.added l.fn.term.constant + sum_by (share_weight l.added (limit_of l.table l.ranges l.greatest)) (take l.part-index l.part-items))
    × (l.total ≤ 2 ^ 32 + l.part-index * 2 ^ 64)
