use Rattle.tiny_emit.proofs.Common.{◌+◌, drop, map, subst, sym, Units, no_parts, part_then, places_in, function_tree, method_part, AddsMethods}
use Rattle.tiny_emit.proofs.Texts.{Others, no_others, skipped, taken}
use Rattle.tiny_emit.proofs.program.add_methods.Goals as goal
use Rattle.tiny_emit.proofs.program.add_methods.Goals.{then-position-main+in_ok-add_unit, else-position-main}

pub loop-position-preserved : goal.loop-position-preserved
loop-position-preserved c end rest =
    let p = places_in c.args.table.now in
    let i = c.loop-position.position in
    let fs = c.args.functions.now in
    let g = c.index-functions-position.result in
    let left = Others c.args.main (i + 1) (drop (i + 1) fs) in
    c.loop-position.invariant end
    (elim c.if-position-main.branch as (λ b. AddsMethods p c.loop-position.units end (Others c.args.main i (drop i fs))) [
      | then-position-main+in_ok-add_unit w ↦
          subst (AddsMethods p c.loop-position.units end)
          (sym (taken c.args.main i fs g c.loop-position-test.true c.index-functions-position.is w.if-position-main.true))
          (part_then c.loop-position.units w.add_unit.new.units end (method_part p (i, function_tree g)) (map (method_part p) left)
          w.in_ok-add_unit.ensures (subst (λ (s : Units). AddsMethods p s end left) w.units-is rest))
      | else-position-main w ↦
          subst (AddsMethods p c.loop-position.units end)
          (sym (skipped c.args.main i fs g c.loop-position-test.true c.index-functions-position.is w.if-position-main.false))
          (subst (λ (s : Units). AddsMethods p s end left) w.units-is rest)
    ])

pub returns : goal.returns
returns c =
    c.loop-position.invariant _
    (subst (AddsMethods (places_in c.args.table.now) c.loop-position.units c.loop-position.units)
    (sym (no_others c.args.main c.loop-position.position c.args.functions.now c.loop-position-test.false))
    (no_parts c.loop-position.units))
