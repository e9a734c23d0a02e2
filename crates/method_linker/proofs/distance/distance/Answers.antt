use Rattle.method_linker.proofs.Common.{arith, get_or, ints}
use Rattle.method_linker.proofs.Places.{place_in, place_is, place_fits, apart}
use Rattle.method_linker.proofs.distance.distance.Goals as goal

pub bounds-places-target : goal.bounds-places-target
bounds-places-target c =
    let h = rw c.in-To.is at c.requires.target in
    place_in c.args.lines.now c.args.places.now c.in-To.target c.requires.placed h

pub overflow_cast-result-in-To : goal.overflow_cast-result-in-To
overflow_cast-result-in-To c =
    let h = rw c.in-To.is at c.requires.target in
    omega (arith, ints, place_fits c.args.lines.now c.args.places.now c.in-To.target c.requires.placed h c.requires.few)

pub bounds-places-position : goal.bounds-places-position
bounds-places-position c = place_in c.args.lines.now c.args.places.now c.args.position c.requires.placed c.requires.position

pub overflow_cast-result-in-To-2 : goal.overflow_cast-result-in-To-2
overflow_cast-result-in-To-2 c =
    omega (arith, ints, place_fits c.args.lines.now c.args.places.now c.args.position c.requires.placed c.requires.position c.requires.few)

pub overflow_sub-result : goal.overflow_sub-result
overflow_sub-result c =
    let h = rw c.in-To.is at c.requires.target in
    omega (
      arith,
      ints,
      place_fits c.args.lines.now c.args.places.now c.in-To.target c.requires.placed h c.requires.few,
      place_fits c.args.lines.now c.args.places.now c.args.position c.requires.placed c.requires.position c.requires.few,
    )

pub returns-in-To : goal.returns-in-To
returns-in-To c =
    let h = rw c.in-To.is at c.requires.target in
    rw c.in-To.is
    (apart (get_or c.args.places.now c.in-To.target 0) (get_or c.args.places.now c.args.position 0) _ _
    (place_is c.args.lines.now c.args.places.now c.in-To.target c.requires.placed h)
    (place_is c.args.lines.now c.args.places.now c.args.position c.requires.placed c.requires.position)
    (place_fits c.args.lines.now c.args.places.now c.in-To.target c.requires.placed h c.requires.few)
    (place_fits c.args.lines.now c.args.places.now c.args.position c.requires.placed c.requires.position c.requires.few))
