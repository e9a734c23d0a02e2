use Rattle.std.proofs.Common.{◌≡◌, ◌<◌, ℕ, List, length, All, subst, sym, ap, arith}
use Rattle.store_placement.specs.Prelude.{free_lows, all_forced}
use Rattle.store_placement.proofs.Choice.{steps_place, free_for_rest, lows_inside}
use Rattle.store_placement.proofs.chosen.addresses_for.Goals as goal

pub with_pairs-placed-requires-clause-low : goal.with_pairs-placed-requires-clause-low
with_pairs-placed-requires-clause-low c =
    let forced = all_forced c.args.fixed.now c.args.pairs.now in
    let P : List ℕ → Type 0 = λ xs. All (λ a. a < 256) xs in
    let lows : c.deref-5.result.now ≡ free_lows forced = cc in
    subst P (sym lows) (lows_inside forced)

pub with_free-requires-clause-enough : goal.with_free-requires-clause-enough
with_free-requires-clause-enough c = free_for_rest c.args.fixed.now c.args.pairs.now c.deref-7.result.now c.deref-8.result.now c.requires (cc) (cc)

pub returns-clause-ok : goal.returns-clause-ok
returns-clause-ok c =
    let forced = all_forced c.args.fixed.now c.args.pairs.now in
    let lows : c.free_lows-lows.result.items ≡ free_lows forced = cc in
    steps_place c.args.fixed.now c.args.pairs.now c.with_free.result.items c.requires c.in_default.ensures c.in_default-first_in_wrong_half.ensures c.in_default-first_collision.ensures (omega (arith, ap length lows, ap length c.open_pairs-open.ensures)) (cc)
