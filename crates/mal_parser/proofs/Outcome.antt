-- A text is read as what it spells: its program, or its first refusal.
use Rattle.mal_parser.proofs.Common.{◌≡◌, ℕ, ◌+◌, List, true, false, length, refl, sym, ap, subst, ◌∙◌, inl, inr, Result, Ok, Err, IfOk, IfErr, ◌⊎◌, Machine}
use Rattle.mal_parser.proofs.Common.{contents, Agrees, IsReadAsSpelled, Makes, FailsBy, Leads, Content, MalError}
use Rattle.mal_line.specs.Lines as lines
use Rattle.mal_parser.specs.declared.error.MalError.TheVariants as errors
use Rattle.mal_parser.specs.Prelude.{MalView, grammar, is_memory, IsRefused, SpellsProgram, add_content, empty, IsSound, parser, resolved_program, ReadsLines, Sketch, sketch_of, step}
use Rattle.mal_parser.proofs.Adding.{fine_made, made_fine}
use Rattle.mal_parser.proofs.Ending.{ends_refused, refused_ends}
use Rattle.mal_parser.proofs.Meaning.{means_program, program_means}
use Rattle.mal_parser.proofs.Refusing.{is_misfit, misfit_is}
use Rattle.mal_parser.proofs.Sounding.{sound}

machine_is : (m : Machine) (cs : List Content) (s : Sketch) → Makes parser 1 (empty m) cs s → s.machine ≡ m
machine_is m cs s b = sym (ap (λ (x : Sketch). x.machine) (made_fine m cs s b).1)

pub agrees : ReadsLines → (m : Machine) → Agrees (grammar m) parser (empty m)
agrees laws m = record {
  tokens = laws.tokens_read;
  fit = λ cs s b. (made_fine m cs s b).0;
  made = λ cs f. (sketch_of m cs, fine_made m cs f);
  said = λ cs s b ts c. let e = machine_is m cs s b in (
    λ h. (subst (λ n. lines.SpellsLine n ts c) e ((laws.said s.machine ts c).0 h), tt),
    λ w. (laws.said s.machine ts c).1 (subst (λ n. lines.SpellsLine n ts c) (sym e) w.0),
  );
  fault = λ cs s b ts f. let e = machine_is m cs s b in (
    λ h. subst (λ n. lines.IsRefused n ts f) e ((laws.refused s.machine ts f).0 h),
    λ w. (laws.refused s.machine ts f).1 (subst (λ n. lines.IsRefused n ts f) (sym e) w),
  );
  misfit = λ cs s b c e. let q = (made_fine m cs s b).1 in (
    λ w. misfit_is m cs (1 + length cs) c e (subst (λ t. add_content (1 + length cs) t c ≡ Err e) (sym q) w.1),
    λ w. (tt, subst (λ t. add_content (1 + length cs) t c ≡ Err e) q (is_misfit m cs (1 + length cs) c e w)),
  );
  program = λ ls cs s say b p. let f = made_fine m cs s b in (
    λ h. program_means m cs f.0 (sound laws m ls cs say f.0) p (ap resolved_program f.1 ∙ h),
    λ w. ap resolved_program (sym f.1) ∙ means_program m cs p f.0 w,
  );
  refused = λ ls cs s say b e. let f = made_fine m cs s b in (
    λ h. ends_refused m cs f.0 e (ap resolved_program f.1 ∙ h),
    λ w. ap resolved_program (sym f.1) ∙ refused_ends m cs f.0 e w,
  );
}

-- ---- what is read

module _ (m : Machine) (laws : IsReadAsSpelled (grammar m) parser (empty m)) (text : List ℕ) (t : Sketch) (led : Leads step 1 (empty m) (contents text) t) where
  pub led_sound : ReadsLines → IsSound t
  led_sound lines =
      let r = laws.says text t led in
      let f = made_fine m r.0 t r.2 in
      subst IsSound f.1 (sound lines m (contents text) r.0 r.1 f.0)

  pub is_spelled : (r : Result MalView MalError) → IfOk r (λ p. resolved_program t ≡ Ok p) → IfOk r (SpellsProgram m text)
  is_spelled (Ok p) h = laws.spelled text t p led h
  is_spelled (Err e) h = tt

  pub is_refused : (r : Result MalView MalError) → IfErr r (λ e. FailsBy is_memory e (resolved_program t)) → IfErr r (λ e. is_memory e ≡ false → IsRefused m text e)
  is_refused (Ok p) h = tt
  is_refused (Err e) h = λ free. laws.ended text t e led (h free)

-- ---- Ok exactly where a program is spelled, each refusal exactly where it is the first

memory_only : (e : MalError) → is_memory e ≡ true → e ≡ errors.OutOfMemory
memory_only errors.OutOfMemory h = refl
memory_only _ h = absurd (cc)

module _ (m : Machine) (laws : IsReadAsSpelled (grammar m) parser (empty m)) (text : List ℕ) where
  pub answers_program : (r : Result MalView MalError) (p : MalView) → IfOk r (SpellsProgram m text) → IfErr r (λ e. is_memory e ≡ false → IsRefused m text e)
      → SpellsProgram m text p → (r ≡ Ok p) ⊎ (r ≡ Err errors.OutOfMemory)
  answers_program (Ok q) p ok err s = inl (ap Ok (laws.one_program text q p ok s))
  answers_program (Err e) p ok err s = go (is_memory e) refl
    where
      go : (b : _) → is_memory e ≡ b → (◌≡◌ {A = Result MalView MalError} (Err e) (Ok p)) ⊎ (◌≡◌ {A = Result MalView MalError} (Err e) (Err errors.OutOfMemory))
      go true h = inr (ap Err (memory_only e h))
      go false h = absurd (laws.not_both text p e s (err h))

  pub answers_refusal : (r : Result MalView MalError) (e : MalError) → IfOk r (SpellsProgram m text) → IfErr r (λ e. is_memory e ≡ false → IsRefused m text e)
      → IsRefused m text e → (r ≡ Err e) ⊎ (r ≡ Err errors.OutOfMemory)
  answers_refusal (Ok q) e ok err s = absurd (laws.not_both text q e ok s)
  answers_refusal (Err f) e ok err s = go (is_memory f) refl
    where
      go : (b : _) → is_memory f ≡ b → (◌≡◌ {A = Result MalView MalError} (Err f) (Err e)) ⊎ (◌≡◌ {A = Result MalView MalError} (Err f) (Err errors.OutOfMemory))
      go true h = inr (ap Err (memory_only f h))
      go false h = inl (ap Err (laws.one_refusal text f e (err h) s))
