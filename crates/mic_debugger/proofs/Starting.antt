-- At the start of a reached instruction nothing else stands.
use Rattle.mic_debugger.proofs.Common.{◌≡◌, ◌≢◌, ℕ, ◌<◌, refl, ap, arith, ImageView, Accepts, Code, Header, IsKind, first, Kind, Overlap}
use Rattle.verifier_facts.specs.declared.kind.Kind.TheVariants as kinds

pub start_alone : (image : ImageView) (stack_end : ℕ) → Accepts image stack_end → (at : ℕ) (kind : Kind) →
    (kind ≡ kinds.Start → ⊥) → IsKind image at kind → IsKind image at kinds.Start → ⊥
start_alone image stack_end accepts at kinds.Start other here start = other refl
start_alone image stack_end accepts at kinds.Header other here start =
    accepts (Overlap at) (Code start.0 at, Header at, (λ e. cc), start.1, here)
start_alone image stack_end accepts at kinds.Inside other here start =
    let ne : Code start.0 at ≢ here.0 = λ e. (let lt : first here.0 < at = here.2 in let same : at ≡ first here.0 = ap first e in omega arith) in
    accepts (Overlap at) (Code start.0 at, here.0, ne, start.1, here.1)
start_alone image stack_end accepts at kinds.Unreached other here start = here (Code start.0 at) start.1
