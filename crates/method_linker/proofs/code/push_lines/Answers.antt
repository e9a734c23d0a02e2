use Rattle.method_linker.proofs.Common.{◌∙◌, SFits, rules, w32, to_z-of_z}
use Rattle.method_linker.proofs.Pushed.{line_more, lines_all}
use Rattle.method_linker.proofs.code.push_lines.Goals as goal

pub loop-position-preserved : goal.loop-position-preserved
loop-position-preserved c end rest =
    let fits : SFits w32 c.distance-far.result = search rules in
    c.loop-position.invariant end
    (line_more c.args.first c.args.lines.now c.loop-position.position _ _ c.loop-position.text c.push_line.new.text end
    c.loop-position-test.true (to_z-of_z w32 c.distance-far.result fits ∙ c.distance-far.ensures) c.in_ok-push_line.ensures rest)

pub returns : goal.returns
returns c =
    lines_all c.args.first c.args.lines.now c.loop-position.position c.args.text.now c.loop-position.text c.loop-position-test.false
    (c.loop-position.invariant _)
