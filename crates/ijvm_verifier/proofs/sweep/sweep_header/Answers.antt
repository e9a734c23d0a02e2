use Rattle.ijvm_verifier.proofs.Common.{rules, ◌+◌, ◌*◌, ℕ, refl, arith, subst, inr, ImageView, Header, IsSwept}
use Rattle.ijvm_verifier.proofs.Swept.{swept_skip, swept_add, swept_clash, header_none, header_only}
use Rattle.ijvm_verifier.proofs.sweep.sweep_header.Goals as goal

two : (image : ImageView) (at end : ℕ) → IsSwept image (2 * at + 1 + 1) end → IsSwept image (2 * at + 2) end
two image at end h = subst (λ (n : ℕ). IsSwept image n end) (omega arith) h

pub returns-then-not-is_entry-clause-ok : goal.returns-then-not-is_entry-clause-ok
returns-then-not-is_entry-clause-ok c =
    two c.args.image.now c.args.at c.args.end
    (swept_skip c.args.image.now (2 * c.args.at + 1) c.args.end c.requires.swept (header_none c.args.image.now c.args.at (c.is_entry.ensures.no (search rules))))

pub returns-then-at-end-clause-err : goal.returns-then-at-end-clause-err
returns-then-at-end-clause-err c = λ z.
    inr (swept_clash c.args.image.now z (2 * c.args.at + 1) c.args.end c.args.at (Header c.args.at) c.requires.swept c.if-at-end.true (omega arith) refl
    (c.is_entry.ensures.yes (search rules), omega arith, omega arith))

pub returns-else-at-end-clause-ok : goal.returns-else-at-end-clause-ok
returns-else-at-end-clause-ok c =
    two c.args.image.now c.args.at (c.args.at + 4)
    (swept_add c.args.image.now (2 * c.args.at + 1) c.args.end c.args.at (c.args.at + 4) (Header c.args.at) c.requires.swept c.if-at-end.false (omega arith) refl (omega arith) (header_only c.args.image.now c.args.at)
    (λ b low high. (c.is_entry.ensures.yes (search rules), low, high)))
