-- Constraints have one refusal at most.
use Rattle.store_placement.proofs.Common.{◌≡◌, ℕ, Bool, true, false, refl, sym, ap, ◌∙◌, inl, inr, arith, cases_lt, PlaceError, Demands, Never, IsFirst}
use Rattle.store_placement.proofs.Common.{NeverTwo, IsFirstTwo, Refuses}
use Rattle.store_placement.specs.declared.refusal.PlaceError.TheVariants as errors

contradict : (b : Bool) {X : Type 0} → b ≡ true → b ≡ false → X
contradict b yes_it not_it = let wrong : true ≡ false = sym yes_it ∙ not_it in absurd (cc)

never_first : {test : ℕ → Bool} {n s : ℕ} {X : Type 0} → Never test n → IsFirst test n s → X
never_first {test} {n} {s} never first = contradict (test s) first.passes (never s first.inside)

first_same : {test : ℕ → Bool} {n s t : ℕ} → IsFirst test n s → IsFirst test n t → s ≡ t
first_same {test} {n} {s} {t} by_s by_t = elim (cases_lt s t) [
  | inl less ↦ contradict (test s) by_s.passes (by_t.lowest s less)
  | inr more ↦ elim (cases_lt t s) [
    | inl less ↦ contradict (test t) by_t.passes (by_s.lowest t less)
    | inr equal ↦ omega arith
  ]
]

never_two : {test : ℕ → ℕ → Bool} {n s t : ℕ} {X : Type 0} → NeverTwo test n → IsFirstTwo test n s t → X
never_two {test} {n} {s} {t} never first = contradict (test s t) first.first.passes (never s t first.first.ordered first.first.inside)

two_same : {test : ℕ → ℕ → Bool} {n s t u v : ℕ} → IsFirstTwo test n s t → IsFirstTwo test n u v → (s ≡ u) × (t ≡ v)
two_same {test} {n} {s} {t} {u} {v} by_s by_u =
    let same : s ≡ u = elim (cases_lt s u) [
      | inl less ↦ contradict (test s t) by_s.first.passes (by_u.lowest s less t by_s.first.ordered by_s.first.inside)
      | inr more ↦ elim (cases_lt u s) [
        | inl less ↦ contradict (test u v) by_u.first.passes (by_s.lowest u less v by_u.first.ordered by_u.first.inside)
        | inr equal ↦ omega arith
      ]
    ] in (
      same,
      elim (cases_lt t v) [
        | inl less ↦ contradict (test s t) by_s.first.passes (ap (λ w. test w t) same ∙ by_u.first.lowest t (let o = by_s.first.ordered in omega arith) less)
        | inr more ↦ elim (cases_lt v t) [
          | inl less ↦ contradict (test u v) by_u.first.passes (ap (λ w. test w v) (sym same) ∙ by_s.first.lowest v (let o = by_u.first.ordered in omega arith) less)
          | inr equal ↦ omega arith
        ]
      ],
    )

pub one_refusal : (d : Demands) (e f : PlaceError) → Refuses d e → Refuses d f → e ≡ f
one_refusal d (errors.PairClash s) (errors.PairClash t) by_e by_f = ap errors.PairClash (first_same by_e by_f)
one_refusal d (errors.PairClash s) (errors.FixedWrongHalf t) by_e by_f = never_first by_f.0 by_e
one_refusal d (errors.PairClash s) (errors.FixedClash t u) by_e by_f = never_first by_f.0 by_e
one_refusal d (errors.PairClash s) errors.NoRoom by_e by_f = never_first by_f.0 by_e
one_refusal d (errors.FixedWrongHalf s) (errors.PairClash t) by_e by_f = never_first by_e.0 by_f
one_refusal d (errors.FixedWrongHalf s) (errors.FixedWrongHalf t) by_e by_f = ap errors.FixedWrongHalf (first_same by_e.1 by_f.1)
one_refusal d (errors.FixedWrongHalf s) (errors.FixedClash t u) by_e by_f = never_first by_f.1 by_e.1
one_refusal d (errors.FixedWrongHalf s) errors.NoRoom by_e by_f = never_first by_f.1 by_e.1
one_refusal d (errors.FixedClash s t) (errors.PairClash u) by_e by_f = never_first by_e.0 by_f
one_refusal d (errors.FixedClash s t) (errors.FixedWrongHalf u) by_e by_f = never_first by_e.1 by_f.1
one_refusal d (errors.FixedClash s t) (errors.FixedClash u v) by_e by_f =
    let r = two_same by_e.2 by_f.2 in ap (λ w. errors.FixedClash w t) r.0 ∙ ap (errors.FixedClash u) r.1
one_refusal d (errors.FixedClash s t) errors.NoRoom by_e by_f = never_two by_f.2 by_e.2
one_refusal d errors.NoRoom (errors.PairClash s) by_e by_f = never_first by_e.0 by_f
one_refusal d errors.NoRoom (errors.FixedWrongHalf s) by_e by_f = never_first by_e.1 by_f.1
one_refusal d errors.NoRoom (errors.FixedClash s t) by_e by_f = never_two by_e.2 by_f.2
one_refusal d errors.NoRoom errors.NoRoom by_e by_f = refl
