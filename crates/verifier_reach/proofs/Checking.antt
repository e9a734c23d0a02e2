-- What the tests at one address show.
use Rattle.verifier_reach.proofs.Common.{◌≡◌, ◌≢◌, ℕ, ◌<◌, Some, refl, arith, ap, Flow, Call, Row, ImageView, IsNoCall, need_by, need_of}

pub no_call : (f : Flow) → ((k : ℕ) → f ≢ Call k) → IsNoCall f
no_call (Call k) other = absurd (other k refl)
no_call f other = refl

-- what is no call needs the operands of its row
pub underflow : (image : ImageView) (r : Row) (need depth : ℕ) → IsNoCall r.flow → need_of image r.needs r.flow ≡ Some need → depth < need → depth < r.needs
underflow image r need depth other needs low =
    let plain : need_of image r.needs r.flow ≡ Some r.needs = ap (need_by image r.needs) other in
    let same : need ≡ r.needs = cc in
    omega arith
