use Rattle.std.proofs.Common.{◌∙◌, arith}
use Rattle.method_linker.proofs.Places.{place_more, places_more, places_all}
use Rattle.method_linker.proofs.code.line_places.Goals as goal

pub loop-line-preserved : goal.loop-line-preserved
loop-line-preserved c = (
  place_more c.args.lines.now c.loop-line.line-index _ c.loop-line.place c.from-place.result c.loop-line-test.true c.loop-line.invariant.0
      (c.from-place.ensures ∙ c.size_of.ensures.is),
  places_more c.args.lines.now c.loop-line.line-index c.loop-line.place c.loop-line.places.items c.push.new.self.items c.loop-line.invariant.1
      c.loop-line.invariant.0 c.in_ok-push.ensures.items,
  omega (arith, c.from-place.ensures, c.size_of.ensures.few),
)

pub returns-clause-places : goal.returns-clause-places
returns-clause-places c =
    places_all c.args.lines.now c.loop-line.line-index c.loop-line.places.items c.loop-line.auto.line-index-end c.loop-line-test.false
    c.loop-line.invariant.1
