use Rattle.mal_shipped.proofs.Common.{◌≡◌, ◌≤◌, length, map, ◌∙◌, ap, arith, take_all, without_line}
use Rattle.mal_shipped.proofs.program.unlined.Goals as goal

pub new-requires : goal.new-requires
new-requires c =
    let whole : length c.args.program.now.statements ≤ c.loop-s.s = omega arith in
    let statements : c.loop-s.statements.items ≡ map without_line c.args.program.now.statements =
    c.loop-s.invariant ∙ ap (map without_line) (take_all c.loop-s.s c.args.program.now.statements whole) in
    rw (statements, c.fallback_of-fallback.ensures, c.machine.ensures, c.entry.ensures.is) c.requires
