use Rattle.method_linker.proofs.Common.{◌≡◌, ◌<◌, ◌^◌, map, range_with_len, line_address}
use Rattle.method_linker.proofs.code.line_places.Given as goal

abbrev pub invariant-loop-line : goal.invariant-loop-line
invariant-loop-line l =
    (l.place ≡ line_address l.lines l.line-index)
    × (l.places.items ≡ map (line_address l.lines) (range_with_len 0 l.line-index))
    × (l.place < 2 ^ 31)
