use Rattle.mic1_cycles.proofs.Common.{◌≡◌, ◌<◌, ◌∙◌, ℕ, ap, sym, arith, half, is_negative}
use Rattle.mic1_cycles.proofs.next.with_its_sign.Goals as goal

half_sign : (x : ℕ) → x < 4294967296 → is_negative x ≡ is_negative (half x)
unfolding half
half_sign x h = grind (arith, h)

pub loop-preserved : goal.loop-preserved
loop-preserved c e fits =
    let of = c.in-Some.of in
    half_sign (e.word of) (fits.words of)
    ∙ (ap (λ w. is_negative w) (sym (c.in-Some.ensures e fits)) ∙ c.loop.invariant e fits)
