-- The look-up finds the lowest line that names what is not declared.
use Rattle.ijvm_asm.proofs.Common.{◌≡◌, ℕ, ◌<◌, ◌≤◌, Bool, true, false, List, [], ◌∷◌, Option, Some, None, refl, ap, subst, ◌∙◌, inl, inr, cond, arith, ◌⊎◌}
use Rattle.ijvm_asm.proofs.Common.{nat_le, leb-false, leb-true, Operation, DraftLine}
use Rattle.ijvm_asm.specs.Prelude.{DraftView, declarations_of, Source, all_units, IsLowest, IsUnknownAt, IsUnknownIn, IsUnknownLine, NamesNone, NamesUnknown, lower, operation_of, or_line, unknown, unknown_lines, unknown_main, unknown_units}
use Rattle.ijvm_asm.proofs.Standing.{operation_again, operation_is}

-- none of the lines has the property, or this is the lowest that has it
abbrev Least : Option ℕ → (ℕ → Type 0) → Type 0
Least None P = (j : ℕ) → P j → ⊥
Least (Some k) P = IsLowest P k

least_same : (o : Option ℕ) (P R : ℕ → Type 0) → ((j : ℕ) → P j → R j) → ((j : ℕ) → R j → P j) → Least o P → Least o R
least_same None P R f g h = λ j r. h j (g j r)
least_same (Some k) P R f g h = record { holds = f k h.holds; lowest = λ j r. h.lowest j (g j r) }

-- these lines turn the lowest so far into the other
abbrev Adds : Option ℕ → Option ℕ → (ℕ → Type 0) → Type 1
Adds a b Q = (P : ℕ → Type 0) → Least a P → Least b (λ j. P j ⊎ Q j)

adds_none : (o : Option ℕ) → Adds o o (λ j. ⊥)
adds_none o P h = least_same o P (λ j. P j ⊎ ⊥) (λ j p. inl p) (λ j r. elim r [ inl p ↦ p | inr q ↦ absurd q ]) h

adds_both : (a b c : Option ℕ) (Q R : ℕ → Type 0) → Adds a b Q → Adds b c R → Adds a c (λ j. Q j ⊎ R j)
adds_both a b c Q R f g P h = least_same c (λ j. (P j ⊎ Q j) ⊎ R j) (λ j. P j ⊎ (Q j ⊎ R j)) there back (g (λ j. P j ⊎ Q j) (f P h))
  where
    there : (j : ℕ) → (P j ⊎ Q j) ⊎ R j → P j ⊎ (Q j ⊎ R j)
    there j (inl (inl p)) = inl p
    there j (inl (inr q)) = inr (inl q)
    there j (inr r) = inr (inr r)

    back : (j : ℕ) → P j ⊎ (Q j ⊎ R j) → (P j ⊎ Q j) ⊎ R j
    back j (inl p) = inl (inl p)
    back j (inr (inl q)) = inl (inr q)
    back j (inr (inr r)) = inr r

alone : (o : Option ℕ) (Q : ℕ → Type 0) → Adds None o Q → Least o Q
alone o Q h = least_same o (λ j. ⊥ ⊎ Q j) Q (λ j r. elim r [ inl p ↦ absurd p | inr q ↦ q ]) (λ j q. inr q) (h (λ j. ⊥) (λ j p. p))

adds_line : (o : Option ℕ) (k : ℕ) → Adds o (lower o k) (λ j. k ≡ j)
adds_line None k P h = record { holds = inr refl; lowest = λ j r. elim r [ inl p ↦ absurd (h j p) | inr e ↦ omega (arith, e) ] }
adds_line (Some i) k P h = go (nat_le i k) refl
  where
    go : (b : Bool) → nat_le i k ≡ b → Least (cond b (Some i) (Some k)) (λ j. P j ⊎ (k ≡ j))
    go true e =
        let le : i ≤ k = leb-true i k e in
        record { holds = inl h.holds; lowest = λ j r. elim r [ inl p ↦ h.lowest j p | inr q ↦ omega (arith, le, q) ] }
    go false e =
        let lt : k < i = leb-false i k e in
        record { holds = inr refl; lowest = λ j r. elim r [ inl p ↦ (let a = h.lowest j p in omega (arith, a, lt)) | inr q ↦ omega (arith, q) ] }

module _ (constants methods : List (List ℕ)) where
  none_is : (u : DraftView) (d : DraftLine) → operation_of constants methods u d.instruction ≡ None → NamesNone constants methods u d.instruction
  none_is u d h = λ o s. absurd (let k = operation_again constants methods u d.instruction o s in cc)

  adds_or : (u : DraftView) (d : DraftLine) (least : Option ℕ) → Adds least (or_line least d.line (operation_of constants methods u d.instruction)) (IsUnknownLine constants methods u d)
  adds_or u d least P h = go (operation_of constants methods u d.instruction) refl
    where
      go : (o : Option Operation) → operation_of constants methods u d.instruction ≡ o → Least (or_line least d.line o) (λ j. P j ⊎ IsUnknownLine constants methods u d j)
      go None e = least_same (lower least d.line) (λ j. P j ⊎ (d.line ≡ j)) (λ j. P j ⊎ IsUnknownLine constants methods u d j)
          (λ j r. elim r [ inl p ↦ inl p | inr q ↦ inr (q, none_is u d e) ]) (λ j r. elim r [ inl p ↦ inl p | inr q ↦ inr q.0 ]) (adds_line least d.line P h)
      go (Some o) e = least_same least P (λ j. P j ⊎ IsUnknownLine constants methods u d j)
          (λ j p. inl p) (λ j r. elim r [ inl p ↦ p | inr q ↦ absurd (q.1 o (operation_is constants methods u d.instruction o e)) ]) h

  adds_lines : (u : DraftView) (ds : List DraftLine) (least : Option ℕ) → Adds least (unknown_lines constants methods u least ds) (IsUnknownIn constants methods u ds)
  adds_lines u [] least = adds_none least
  adds_lines u (d ∷ ds) least =
      let next = or_line least d.line (operation_of constants methods u d.instruction) in
      adds_both least next (unknown_lines constants methods u next ds) (IsUnknownLine constants methods u d) (IsUnknownIn constants methods u ds) (adds_or u d least) (adds_lines u ds next)

  adds_units : (us : List DraftView) (least : Option ℕ) → Adds least (unknown_units constants methods least us) (IsUnknownAt constants methods us)
  adds_units [] least = adds_none least
  adds_units (u ∷ us) least =
      let next = unknown_lines constants methods u least u.lines in
      adds_both least next (unknown_units constants methods next us) (IsUnknownIn constants methods u u.lines) (IsUnknownAt constants methods us) (adds_lines u u.lines least) (adds_units us next)

  least_main : (main : Option DraftView) (us : List DraftView) → Least (unknown_units constants methods (unknown_main constants methods main) us) (IsUnknownAt constants methods (all_units main us))
  least_main None us = alone (unknown_units constants methods None us) (IsUnknownAt constants methods us) (adds_units us None)
  least_main (Some u) us = alone (unknown_units constants methods (unknown_lines constants methods u None u.lines) us) (IsUnknownAt constants methods (u ∷ us)) (adds_units (u ∷ us) None)

pub unknown_is : (s : Source) (k : ℕ) → unknown s ≡ Some k → IsLowest (NamesUnknown (declarations_of s)) k
unknown_is s k h = subst (λ o. Least o (NamesUnknown (declarations_of s))) h (least_main s.constants s.methods s.main s.units)

pub all_known : (s : Source) → unknown s ≡ None → (k : ℕ) → NamesUnknown (declarations_of s) k → ⊥
all_known s h = subst (λ o. Least o (NamesUnknown (declarations_of s))) h (least_main s.constants s.methods s.main s.units)

pub none_unknown : (s : Source) → ((k : ℕ) → NamesUnknown (declarations_of s) k → ⊥) → unknown s ≡ None
none_unknown s h = go (unknown s) refl
  where
    go : (o : Option ℕ) → unknown s ≡ o → o ≡ None
    go None e = refl
    go (Some k) e = absurd (h k (unknown_is s k e).holds)

pub is_unknown : (s : Source) (k : ℕ) → IsLowest (NamesUnknown (declarations_of s)) k → unknown s ≡ Some k
is_unknown s k h = go (unknown s) refl
  where
    go : (o : Option ℕ) → unknown s ≡ o → unknown s ≡ Some k
    go None e = absurd (all_known s e k h.holds)
    go (Some j) e =
        let w = unknown_is s j e in
        let a = w.lowest k h.holds in
        let b = h.lowest j w.holds in
        let same : j ≡ k = omega (arith, a, b) in
        e ∙ ap Some same
