use Rattle.method_linker.proofs.Common.{drop, enumerate_from, Text, AddsLines}
use Rattle.method_linker.proofs.code.push_lines.Given as goal

-- what ends with the lines that are left ends with all of them
abbrev pub invariant-loop-position : goal.invariant-loop-position
invariant-loop-position l = (end : Text) → AddsLines l.first l.lines l.text end (drop l.position (enumerate_from 0 l.lines)) →
    AddsLines l.first l.lines l.fn.text end (enumerate_from 0 l.lines)
