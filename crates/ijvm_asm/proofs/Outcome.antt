-- A source is read as what it spells: each line by itself, one line after the other, and all together.
use Rattle.ijvm_asm.proofs.Common.{◌≡◌, ℕ, List, refl, ap, sym, subst, ◌∙◌, false, Result, Ok, Err, IfOk, IfErr, contents, Agrees, IsReadAsSpelled, Leads}
use Rattle.ijvm_asm.proofs.Common.{ProgramView, AsmError}
use Rattle.ijvm_line.specs.Lines as lines
use Rattle.ijvm_asm.specs.declared.error.AsmError.TheVariants as errors
use Rattle.ijvm_asm.specs.Prelude.{is_memory, RefusesBy, place_of, Said, declarations_of, empty, Source, Declarations, IsLowest, IsProgramOf, NamesUnknown, AreRefused, grammar, IsRefused, SpellsProgram, whole_program, parser, ReadsLines, step}
use Rattle.ijvm_asm.proofs.Building.{Build}
use Rattle.ijvm_asm.proofs.Conditions.{refuses_fails}
use Rattle.ijvm_asm.proofs.Sections.{next_refused, next_says, of_source, refused_next, says_next, source_of}
use Rattle.ijvm_asm.proofs.Fronts.{front_of, of_front, stands, stands_at}
use Rattle.ijvm_asm.proofs.Opened.{is_missing, missing_is, opens_are}
use Rattle.ijvm_asm.proofs.Reasons.{misfit_again, misfit_is}
use Rattle.ijvm_asm.proofs.WholeSource.{IsLate, refused_again, refused_is, whole_again, whole_is}

module _ (xs : List Said) (s : Source) (b : Build 1 empty xs s) where
  late_is : (e : AsmError) → IsLate s e → AreRefused xs e
  late_is (errors.MissingEnd k) w = let m = missing_is s k w in (m.0, sym (opens_are xs 1 empty s b) ∙ m.1)
  late_is (errors.UnknownName k) (out, w) = (declarations_of s, source_of xs s b out, w)
  late_is errors.NoMain (out, known, at) = (declarations_of s, source_of xs s b out, known, at)
  late_is _ w = absurd w

  is_late : (e : AsmError) → AreRefused xs e → IsLate s e
  is_late (errors.MissingEnd k) w = is_missing s k w.0 (opens_are xs 1 empty s b ∙ w.1)
  is_late (errors.UnknownName k) (d, w, first) = let of = of_source xs s b d w in (of.0, subst (λ d. IsLowest (NamesUnknown d) k) (sym of.1) first)
  is_late errors.NoMain (d, w, known, none) =
      let of = of_source xs s b d w in
      (of.0, subst (λ d. (k : ℕ) → NamesUnknown d k → ⊥) (sym of.1) known, ap (λ (d : Declarations). d.main) of.1 ∙ none)
  is_late _ w = absurd w

pub agrees : ReadsLines → Agrees grammar parser empty
agrees laws = record {
  tokens = laws.tokens_read;
  fit = front_of;
  made = of_front;
  said = λ xs s b ts x. (next_says laws s ts x, says_next laws s ts x);
  fault = λ xs s b ts f. (
    λ h. (s.place, stands_at xs s b s.place refl, next_refused laws s ts f h),
    λ w. refused_next laws s ts f (subst (λ p. lines.IsRefused p ts f) (sym (stands xs s b w.0 w.1)) w.2),
  );
  misfit = λ xs s b x e. (λ w. misfit_is xs s b x e w.0 w.1, λ w. let at = stands xs s b (place_of x) w.stands in (at, misfit_again xs s b x e at w));
  program = λ ls xs s say b p. (
    λ h. let w = whole_is s p h in (declarations_of s, source_of xs s b w.0, w.1),
    λ w. let of = of_source xs s b w.0 w.1 in whole_again s p of.0 (subst (λ d. IsProgramOf d p) (sym of.1) w.2),
  );
  refused = λ ls xs s say b e. (λ h. late_is xs s b e (refused_is s e h), λ w. refused_again s e (is_late xs s b e w));
}

module _ (laws : IsReadAsSpelled grammar parser empty) (text : List ℕ) (s : Source) (led : Leads step 1 empty (contents text) s) where
  pub is_spelled : (r : Result ProgramView AsmError) → IfOk r (λ p. whole_program s ≡ Ok p) → IfOk r (SpellsProgram text)
  is_spelled (Ok p) h = laws.spelled text s p led h
  is_spelled (Err e) h = tt

  pub is_refused : (r : Result ProgramView AsmError) → IfErr r (λ e. RefusesBy e (whole_program s)) → IfErr r (λ e. is_memory e ≡ false → IsRefused text e)
  is_refused (Ok p) h = tt
  is_refused (Err e) h = λ free. laws.ended text s e led (refuses_fails e (whole_program s) h free)
