use Rattle.ijvm_verifier.proofs.Common.{◌≡◌, ◌≤◌, refl, length, Some, arith, subst, slice_get, slice_get_read, VerifiedView, Piece, Covers, IsKind}
use Rattle.ijvm_verifier.proofs.verified.VerifiedImage.kind_at.Goals as goal

pub returns-then-at-len : goal.returns-then-at-len
returns-then-at-len c =
    let is : slice_get c.self.inside.kinds.items c.args.at ≡ Some c.index.result.now = slice_get_read c.self.inside.kinds.items (length c.self.inside.kinds.items) c.args.at c.index.result.now refl (omega arith) c.index.ensures in
    subst (λ (v : VerifiedView). IsKind v.image c.args.at c.index.result.now) c.self.view_is (c.self.invariant.kinds_are.each c.args.at c.index.result.now is)

pub returns-else-at-len : goal.returns-else-at-len
returns-else-at-len c =
    let past : length c.self.inside.image.text ≤ c.args.at = omega (arith, c.self.invariant.kinds_are.long) in
    subst (λ (v : VerifiedView). (p : Piece) → Covers v.image p c.args.at → ⊥) c.self.view_is (c.self.invariant.kinds_are.beyond c.args.at past)
