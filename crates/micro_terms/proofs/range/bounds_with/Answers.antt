use Rattle.micro_terms.proofs.Common.{◌≡◌, ◌+◌, true, false, arith, limit_of, side}
use Rattle.micro_terms.proofs.Readings.{within}
use Rattle.micro_terms.proofs.range.bounds_with.Goals as goal

pub returns : goal.returns
returns c env inside =
    let t = c.args.term.now in
    let ends = limit_of c.args.table.now c.args.ranges.now in
    let low = c.in_ok-low.low in
    let high = c.in_ok-high.high in
    let a = c.side_of.ensures.value in
    let b = c.side_of-2.ensures.value in
    let d = c.side_of-3.ensures.value in
    let f = c.side_of-4.ensures.value in
    let lowest = c.in_ok-low.ensures in
    let highest = c.in_ok-high.ensures in
    let least : side false (ends true) t + low ≡ side true (ends false) t + c.args.turn = omega (arith, a, d, c.from.ensures, lowest.0) in
    let most : side false (ends false) t + high ≡ side true (ends true) t + c.args.turn = omega (arith, b, f, c.from-2.ensures, highest.0) in
    within c.args.turn (record { low = low; high = high }) env (ends false) (ends true) inside t c.requires (omega (arith, highest.1)) least most
