use Rattle.std.proofs.Common.{◌≡◌, ◌≢◌, ◌<◌, ◌-◌, ◌∙◌, suc, arith, refl, rules}
use Rattle.cli_session.specs.declared.lines.Step.TheVariants as steps
use Rattle.cli_session.specs.Prelude.{most_lines}
use Rattle.cli_session.proofs.Going.{goes_more, goes_over, goes_start, kept_on}
use Rattle.cli_session.proofs.lines.do_lines.Goals as goal

pub lines-init : goal.lines-init
lines-init g c = record { goes = goes_start most_lines c.requires.waits; lasts = λ on. c.requires.lasts; names = refl }

pub do_line-step-requires-clause-lasts : goal.do_line-step-requires-clause-lasts
do_line-step-requires-clause-lasts g c =
    let some : 0 < c.lines.left = search rules in
    let on : c.lines.step ≡ steps.On = search rules in
    let is : c.lines.left ≡ suc (c.lines.left - 1) = omega (arith, some) in
    (c.lines.left - 1, rw is at c.lines.invariant.lasts on)

pub do_line-step-requires-clause-waits : goal.do_line-step-requires-clause-waits
do_line-step-requires-clause-waits g c =
    let on : c.lines.step ≡ steps.On = search rules in
    kept_on most_lines c.lines.left _ _ c.lines.step on c.lines.invariant.goes

pub lines-preserved : goal.lines-preserved
lines-preserved g c =
    let some : 0 < c.lines.left = search rules in
    let on : c.lines.step ≡ steps.On = search rules in
    let is : c.lines.left ≡ suc (c.lines.left - 1) = omega (arith, some) in
    record {
      goes = goes_more most_lines (c.lines.left - 1) c.lines.step c.do_line-step.result on (rw is at c.lines.invariant.goes) (c.do_line-step.ensures.goes (c.lines.left - 1));
      lasts = λ next. c.do_line-step.ensures.lasts next (c.lines.left - 1) (rw is at c.lines.invariant.lasts on);
      names = c.do_line-step.ensures.names ∙ c.lines.invariant.names;
    }

pub returns-else-eq-clause-goes : goal.returns-else-eq-clause-goes
returns-else-eq-clause-goes g c =
    let other : c.lines.step ≢ steps.On = search rules in
    goes_over most_lines c.lines.left 0 c.lines.step other c.lines.invariant.goes
