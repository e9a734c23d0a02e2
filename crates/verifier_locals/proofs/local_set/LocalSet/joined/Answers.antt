use Rattle.verifier_locals.proofs.Common.{◌≡◌, ◌<◌, ◌⊎◌, ℕ, arith, inl, inr, max, bit_at, le_or_l, bit_at_or, bit_at-lt, cases_eq}
use Rattle.verifier_locals.proofs.local_set.LocalSet.joined.Goals as goal

-- the larger of two bits
either : (a b m : ℕ) → m ≡ max a b → a < 2 → b < 2 → (m ≡ 1 → (a ≡ 1) ⊎ (b ≡ 1)) × ((a ≡ 1) ⊎ (b ≡ 1) → m ≡ 1)
either a b m is low_a low_b = (
  λ one. elim (cases_eq a 1) [ inl left ↦ inl left | inr other ↦ inr (omega arith) ],
  λ or. elim or [ inl left ↦ omega arith | inr right ↦ omega arith ],
)

pub returns-clause-both : goal.returns-clause-both
returns-clause-both c = λ i.
    either (bit_at c.args.self.bits i) (bit_at c.args.other.bits i) _ (bit_at_or c.args.self.bits c.args.other.bits i) (bit_at-lt c.args.self.bits i) (bit_at-lt c.args.other.bits i)

pub returns-clause-above : goal.returns-clause-above
returns-clause-above c = le_or_l c.args.self.bits c.args.other.bits
