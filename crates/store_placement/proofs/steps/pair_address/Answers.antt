use Rattle.store_placement.proofs.Common.{◌≡◌, ◌<◌, ℕ, ◌+◌, ◌∙◌, List, length, get_or, drop, false, eqb, refl, sym, arith, ne_eqb, drop_more, Pair}
use Rattle.store_placement.proofs.Common.{pair_address}
use Rattle.store_placement.proofs.steps.pair_address.Goals as goal

-- a pair that s is no target of is passed
passed : (pairs : List Pair) (lows : List ℕ) (s k : ℕ) (d : Pair) → k < length pairs → k < length lows → eqb (get_or pairs k d).no s ≡ false → eqb (get_or pairs k d).yes s ≡ false → pair_address (drop k pairs) (drop k lows) s ≡ pair_address (drop (k + 1) pairs) (drop (k + 1) lows) s
passed pairs lows s k d in_pairs in_lows not_low not_high = rw (drop_more pairs k d in_pairs, drop_more lows k 0 in_lows, not_low, not_high) refl

pub loop-k-preserved : goal.loop-k-preserved
loop-k-preserved c =
    sym (passed c.args.pairs.now c.args.lows.now c.args.s c.loop-k.k _ (omega arith) (omega arith) (ne_eqb _ _ c.if-pair-s.false) (ne_eqb _ _ c.if-pair-s-2.false)) ∙ c.loop-k.invariant
