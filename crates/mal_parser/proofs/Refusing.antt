-- What does not fit after others is refused, and nothing else is.
use Rattle.mal_parser.proofs.Common.{◌≡◌, ℕ, ◌<◌, true, List, [], ◌∷◌, Option, Some, None, length, refl, sym, ap, ◌∙◌, arith, inl, inr, cond, Ok, Err, nat_le}
use Rattle.mal_parser.proofs.Common.{is_some, le-leb, leb-true, Machine, Content, MalError, Draft}
use Rattle.mal_line.specs.declared.content.Content.TheVariants as said
use Rattle.mal_parser.specs.declared.error.MalError.TheVariants as errors
use Rattle.mal_parser.specs.Prelude.{address_of, has_fix, has_name, fallbacks, fixes, IsMisfit, statements, add_content, add_fix, first, sketch_of}
use Rattle.mal_parser.proofs.Adding.{picked, with_fallback, with_fix, with_statement}

some_first : (ds : List Draft) → is_some (first ds) ≡ true → 0 < length ds
some_first [] h = absurd (cc)
some_first (d ∷ ds) h = omega arith

first_some : (ds : List Draft) → 0 < length ds → is_some (first ds) ≡ true
first_some [] h = absurd (omega arith)
first_some (d ∷ ds) h = refl

module _ (m : Machine) (cs : List Content) (k : ℕ) where
  pub misfit_is : (c : Content) (x : MalError) → add_content k (sketch_of m cs) c ≡ Err x → IsMisfit k cs c x
  unfolding with_fix with_fallback with_statement
  misfit_is said.Nothing x h = absurd (cc)
  misfit_is (said.Fix label number) x h = go (address_of number) refl h
    where
      go : (o : Option ℕ) → address_of number ≡ o → add_fix k (sketch_of m cs) label o ≡ Err x → IsMisfit k cs (said.Fix label number) x
      go None e h = (cc, inl e)
      go (Some a) e h = elim (picked (has_fix (fixes cs) label) (Err (errors.BadFix k)) (Ok (with_fix k (sketch_of m cs) label a)) (Err x) h) [
        | inl w ↦ let z = w.1 in (cc, inr w.0)
        | inr w ↦ absurd (let z = w.1 in cc)
      ]
  misfit_is (said.Fallback parts) x h = elim (picked (is_some (first (fallbacks cs))) (Err (errors.BadFix k)) (Ok (with_fallback k (sketch_of m cs) parts)) (Err x) h) [
    | inl w ↦ let z = w.1 in (cc, some_first (fallbacks cs) w.0)
    | inr w ↦ absurd (let z = w.1 in cc)
  ]
  misfit_is (said.Statement label parts) x h = elim (picked (has_name (statements cs) label) (Err (errors.DuplicateLabel k)) (cond (nat_le 512 (length (statements cs))) (Err (errors.TooMany k)) (Ok (with_statement k (sketch_of m cs) label parts))) (Err x) h) [
    | inl w ↦ let z = w.1 in inl (cc, w.0)
    | inr w ↦ elim (picked (nat_le 512 (length (statements cs))) (Err (errors.TooMany k)) (Ok (with_statement k (sketch_of m cs) label parts)) (Err x) w.1) [
      | inl v ↦ let z = v.1 in inr (cc, w.0, leb-true 512 (length (statements cs)) v.0)
      | inr v ↦ absurd (let z = v.1 in cc)
    ]
  ]

  pub is_misfit : (c : Content) (x : MalError) → IsMisfit k cs c x → add_content k (sketch_of m cs) c ≡ Err x
  unfolding with_fix with_fallback with_statement
  is_misfit said.Nothing x b = absurd b
  is_misfit (said.Fix label number) x (q, inl e) = ap (add_fix k (sketch_of m cs) label) e ∙ ap Err (sym q)
  is_misfit (said.Fix label number) x (q, inr e) = go (address_of number) ∙ ap Err (sym q)
    where
      go : (o : Option ℕ) → add_fix k (sketch_of m cs) label o ≡ Err (errors.BadFix k)
      go None = refl
      go (Some a) = ap (λ b. cond b (Err (errors.BadFix k)) (Ok (with_fix k (sketch_of m cs) label a))) e
  is_misfit (said.Fallback parts) x (q, b) =
      ap (λ b. cond b (Err (errors.BadFix k)) (Ok (with_fallback k (sketch_of m cs) parts))) (first_some (fallbacks cs) b) ∙ ap Err (sym q)
  is_misfit (said.Statement label parts) x (inl (q, e)) =
      ap (λ b. cond b (Err (errors.DuplicateLabel k)) (cond (nat_le 512 (length (statements cs))) (Err (errors.TooMany k)) (Ok (with_statement k (sketch_of m cs) label parts)))) e
      ∙ ap Err (sym q)
  is_misfit (said.Statement label parts) x (inr (q, f, n)) =
      ap (λ b. cond b (Err (errors.DuplicateLabel k)) (cond (nat_le 512 (length (statements cs))) (Err (errors.TooMany k)) (Ok (with_statement k (sketch_of m cs) label parts)))) f
      ∙ (ap (λ b. cond b (Err (errors.TooMany k)) (Ok (with_statement k (sketch_of m cs) label parts))) (le-leb 512 (length (statements cs)) n) ∙ ap Err (sym q))
