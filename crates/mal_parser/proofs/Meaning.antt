-- The program of what fine lines say is the one that their labels are resolved to.
use Rattle.mal_parser.proofs.Common.{◌≡◌, ℕ, zero, suc, ◌-◌, ◌≤◌, Bool, true, false, List, [], ◌∷◌, Option, Some, None, length, refl, sym, ap, subst, ◌∙◌}
use Rattle.mal_parser.proofs.Common.{arith, cond, Ok, IfSome, map, find, not, slice_get, option_map, option_to_list, unwrap_or, ◌&&◌, list_all}
use Rattle.mal_parser.proofs.Common.{slice_get_within, not-false, Machine, Part, Content, Next, Draft, Fix, Statement}
use Rattle.mal_line.specs.declared.next.Next.TheVariants as nexts
use Rattle.mal_parser.specs.Prelude.{own_label, AreDistinct, fix_labels, has_label, labels_of, AreResolved, fallbacks, falls, fixes, IsFine, IsProgramOf, IsResolved, IsResolvedNext, statements, by_entry, by_falling, by_unknown, earlier, falling, first, first_falling, first_unknown, fixed_of, IsSound, knows, main1, resolved_next, number_of, resolved_program, program_with, resolved, sketch_of, target_number, unknown_draft, unknown_fix, unknown_in, IsFallback, label_at, MalView}
use Rattle.mal_parser.proofs.Fixing.{fixed_is, fixed_there}
use Rattle.mal_parser.proofs.Resolved.{among, among_at, any_place, at_place, draft_label, found_later, known_one, label_is, labelled_at, neither, no_line, one_place, program_is, target_label}

-- ---- what is resolved is the meaning

leads : (ds : List Draft) (fs : List Fix) (next : Next (List ℕ)) → knows ds next ≡ true → IsResolvedNext (map (resolved ds fs) ds) next (resolved_next ds next)
leads ds fs nexts.Following h = tt
leads ds fs (nexts.Goto label) h = target_label ds fs label h
leads ds fs (nexts.Dispatch high) h = refl
leads ds fs (nexts.Branch test high low) h = go (has_label ds high) (has_label ds low) refl refl h
  where
    go : (a b : Bool) → has_label ds high ≡ a → has_label ds low ≡ b → (a && b) ≡ true → (test ≡ test) × (label_at (map (resolved ds fs) ds) (target_number ds high) ≡ Some high) × (label_at (map (resolved ds fs) ds) (target_number ds low) ≡ Some low)
    go true true e f h = (refl, target_label ds fs high e, target_label ds fs low f)
    go true false e f h = absurd (cc)
    go false b e f h = absurd (cc)

resolves : (ds : List Draft) (fs : List Fix) (d : Draft) → knows ds d.parts.next ≡ true → IsResolved (map (resolved ds fs) ds) fs d (resolved ds fs d)
resolves ds fs d h = record { label = refl; line = refl; part = refl; next = leads ds fs d.parts.next h; fixed = fixed_is fs d.label }

all_resolve : (ds : List Draft) (fs : List Fix) (xs : List Draft) → find (λ d. not (knows ds d.parts.next)) xs ≡ None → AreResolved (map (resolved ds fs) ds) fs xs (map (resolved ds fs) xs)
all_resolve ds fs [] h = tt
all_resolve ds fs (x ∷ xs) h =
    let p = found_later (not (knows ds x.parts.next)) x (find (λ d. not (knows ds d.parts.next)) xs) h in
    (resolves ds fs x (not-false (knows ds x.parts.next) p.0), all_resolve ds fs xs p.1)

known_fixes : (ds : List Draft) (fs : List Fix) → find (λ f. not (has_label ds f.label)) fs ≡ None → list_all (λ f. has_label ds f.label) fs ≡ true
known_fixes ds [] h = refl
known_fixes ds (f ∷ fs) h =
    let p = found_later (not (has_label ds f.label)) f (find (λ f. not (has_label ds f.label)) fs) h in
    let k = not-false (has_label ds f.label) p.0 in
    rw k (known_fixes ds fs p.1)

fallback_resolves : (ds : List Draft) (fs : List Fix) (fb : List Draft) → length fb ≤ 1 → unknown_in ds (first fb) ≡ None → AreResolved (map (resolved ds fs) ds) fs fb (option_to_list (option_map (resolved ds fs) (first fb)))
fallback_resolves ds fs [] le h = tt
fallback_resolves ds fs (d ∷ []) le h = (resolves ds fs d (known_one ds d h), tt)
fallback_resolves ds fs (d ∷ e ∷ fb) le h = absurd (omega arith)

module _ (m : Machine) (cs : List Content) (fine : IsFine cs) (sound : IsSound (sketch_of m cs)) where
  made_is : (entry : ℕ) → first_unknown (sketch_of m cs) ≡ None → first_falling (sketch_of m cs) ≡ None → number_of (statements cs) main1 ≡ Some entry → IsProgramOf m cs (program_with (sketch_of m cs) entry)
  made_is entry u f e =
      let p = neither (unknown_draft (statements cs) (statements cs)) (earlier (unknown_fix (statements cs) (fixes cs)) (unknown_in (statements cs) (first (fallbacks cs)))) u in
      let q = neither (unknown_fix (statements cs) (fixes cs)) (unknown_in (statements cs) (first (fallbacks cs))) p.1 in
      record {
        machine_is = refl;
        statements_are = all_resolve (statements cs) (fixes cs) (statements cs) (no_line (λ (d : Draft). d.line) (find (λ d. not (knows (statements cs) d.parts.next)) (statements cs)) p.0);
        fallback_is = fallback_resolves (statements cs) (fixes cs) (fallbacks cs) fine.one_default q.1;
        fixes_known = known_fixes (statements cs) (fixes cs) (no_line (λ (f : Fix). f.line) (find (λ f. not (has_label (statements cs) f.label)) (fixes cs)) q.0);
        whole = program_is (sketch_of m cs) entry sound u f e;
      }

  pub program_means : (p : MalView) → resolved_program (sketch_of m cs) ≡ Ok p → IsProgramOf m cs p
  unfolding resolved_program
  program_means p h = by_u (first_unknown (sketch_of m cs)) refl h
    where
      by_e : (o : Option ℕ) → first_unknown (sketch_of m cs) ≡ None → first_falling (sketch_of m cs) ≡ None → number_of (statements cs) main1 ≡ o → by_entry (sketch_of m cs) o ≡ Ok p → IsProgramOf m cs p
      by_e None u f e h = absurd (cc)
      by_e (Some entry) u f e h = let k : program_with (sketch_of m cs) entry ≡ p = cc in subst (IsProgramOf m cs) k (made_is entry u f e)

      by_f : (o : Option ℕ) → first_unknown (sketch_of m cs) ≡ None → first_falling (sketch_of m cs) ≡ o → by_falling (sketch_of m cs) o ≡ Ok p → IsProgramOf m cs p
      by_f (Some line) u f h = absurd (cc)
      by_f None u f h = by_e (number_of (statements cs) main1) u f refl h

      by_u : (o : Option ℕ) → first_unknown (sketch_of m cs) ≡ o → by_unknown (sketch_of m cs) o ≡ Ok p → IsProgramOf m cs p
      by_u (Some line) u h = absurd (cc)
      by_u None u h = by_f (first_falling (sketch_of m cs)) u refl h

-- ---- the meaning is what is resolved

same_labels : (ss : List Statement) (fs : List Fix) (ds : List Draft) (ys : List Statement) (i : ℕ) → AreResolved ss fs ds ys → draft_label ds i ≡ label_at ys i
unfolding draft_label
same_labels ss fs [] [] i a = refl
same_labels ss fs [] (y ∷ ys) i a = absurd a
same_labels ss fs (d ∷ ds) [] i a = absurd a
same_labels ss fs (d ∷ ds) (y ∷ ys) zero a = sym a.0.label
same_labels ss fs (d ∷ ds) (y ∷ ys) (suc i) a = same_labels ss fs ds ys i a.1

has_at : (ds : List Draft) (i : ℕ) (label : List ℕ) → draft_label ds i ≡ Some label → has_label ds label ≡ true
has_at ds i label h = let a = labelled_at ds i label h in among own_label ds label ∙ among_at own_label ds i a.0 label a.1 a.2

number_at : (ds : List Draft) (i : ℕ) (label : List ℕ) → AreDistinct (labels_of ds) → draft_label ds i ≡ Some label → number_of ds label ≡ Some i
number_at ds i label d h =
    let a = labelled_at ds i label h in
    let p = any_place ds label (has_at ds i label h) in
    let q = at_place ds label p.0 p.1 in
    p.1 ∙ ap Some (one_place own_label ds p.0 i q.0 a.0 label d q.1 (label_is label q.0.label q.2) a.1 a.2)

target_at : (ds : List Draft) (i : ℕ) (label : List ℕ) → AreDistinct (labels_of ds) → draft_label ds i ≡ Some label → i ≡ target_number ds label
target_at ds i label d h = sym (ap (λ o. unwrap_or o 0) (number_at ds i label d h))

module _ (ds : List Draft) (fs : List Fix) (ss : List Statement) (distinct : AreDistinct (labels_of ds)) (once : AreDistinct (fix_labels fs)) (all : AreResolved ss fs ds ss) where
  label_here : (i : ℕ) (label : List ℕ) → label_at ss i ≡ Some label → draft_label ds i ≡ Some label
  label_here i label h = same_labels ss fs ds ss i all ∙ h

  knows_it : (next : Next (List ℕ)) (t : Next ℕ) → IsResolvedNext ss next t → knows ds next ≡ true
  knows_it nexts.Following t l = refl
  knows_it (nexts.Goto label) (nexts.Goto to) l = has_at ds to label (label_here to label l)
  knows_it (nexts.Dispatch high) t l = refl
  knows_it (nexts.Branch test high low) (nexts.Branch t a b) l =
      let h = has_at ds a high (label_here a high l.1) in
      let k = has_at ds b low (label_here b low l.2) in
      rw (h, k) refl
  knows_it _ _ l = absurd l

  leads_there : (next : Next (List ℕ)) (t : Next ℕ) → IsResolvedNext ss next t → t ≡ resolved_next ds next
  leads_there nexts.Following nexts.Following l = refl
  leads_there (nexts.Goto label) (nexts.Goto to) l = ap (λ n. nexts.Goto n) (target_at ds to label distinct (label_here to label l))
  leads_there (nexts.Dispatch high) (nexts.Dispatch h) l = ap (λ b. nexts.Dispatch b) (sym l)
  leads_there (nexts.Branch test high low) (nexts.Branch t a b) l =
      let e = l.0 in
      let f = target_at ds a high distinct (label_here a high l.1) in
      let g = target_at ds b low distinct (label_here b low l.2) in
      ap (λ x. nexts.Branch x a b) (sym e) ∙ (ap (λ n. nexts.Branch test n b) f ∙ ap (λ n. nexts.Branch test (target_number ds high) n) g)
  leads_there _ _ l = absurd l

  statement_there : (d : Draft) (s : Statement) → IsResolved ss fs d s → s ≡ resolved ds fs d
  statement_there d s r = one s.label d.label s.line d.line s.part d.parts.part s.next (resolved_next ds d.parts.next) s.fixed (fixed_of fs d.label) r.label r.line r.part (leads_there d.parts.next s.next r.next) (fixed_there fs d.label s.fixed once r.fixed)
    where
      one : (a a2 : Option (List ℕ)) (b b2 : ℕ) (c c2 : Part) (e e2 : Next ℕ) (f f2 : Option ℕ) → a ≡ a2 → b ≡ b2 → c ≡ c2 → e ≡ e2 → f ≡ f2
          → ◌≡◌ {A = Statement} (record { label = a; line = b; part = c; next = e; fixed = f }) (record { label = a2; line = b2; part = c2; next = e2; fixed = f2 })
      one a a2 b b2 c c2 e e2 f f2 g h i j k = rw (g, h, i, j, k) refl

  all_there : (xs : List Draft) (ys : List Statement) → AreResolved ss fs xs ys → ys ≡ map (resolved ds fs) xs
  all_there [] [] a = refl
  all_there [] (y ∷ ys) a = absurd a
  all_there (x ∷ xs) [] a = absurd a
  all_there (x ∷ xs) (y ∷ ys) a =
      let e = statement_there x y a.0 in
      let f = all_there xs ys a.1 in
      ap (λ (z : Statement). z ∷ ys) e ∙ ap (λ (zs : List Statement). resolved ds fs x ∷ zs) f

  none_unknown : (xs : List Draft) (ys : List Statement) → AreResolved ss fs xs ys → find (λ d. not (knows ds d.parts.next)) xs ≡ None
  none_unknown [] [] a = refl
  none_unknown [] (y ∷ ys) a = absurd a
  none_unknown (x ∷ xs) [] a = absurd a
  none_unknown (x ∷ xs) (y ∷ ys) a = let k = knows_it x.parts.next y.next a.0.next in rw k (none_unknown xs ys a.1)

both_at : (ss : List Statement) (fs : List Fix) (ds : List Draft) (ys : List Statement) (i : ℕ) (d : Draft) → AreResolved ss fs ds ys → slice_get ds i ≡ Some d → (s : Statement) × (slice_get ys i ≡ Some s) × IsResolved ss fs d s
both_at ss fs [] ys i d a g = absurd (cc)
both_at ss fs (x ∷ ds) [] i d a g = absurd a
both_at ss fs (x ∷ ds) (y ∷ ys) zero d a g = let e : x ≡ d = cc in (y, refl, subst (λ d. IsResolved ss fs d y) e a.0)
both_at ss fs (x ∷ ds) (y ∷ ys) (suc i) d a g = both_at ss fs ds ys i d a.1 g

same_length : (ss : List Statement) (fs : List Fix) (ds : List Draft) (ys : List Statement) → AreResolved ss fs ds ys → length ds ≡ length ys
same_length ss fs [] [] a = refl
same_length ss fs [] (y ∷ ys) a = absurd a
same_length ss fs (x ∷ ds) [] a = absurd a
same_length ss fs (x ∷ ds) (y ∷ ys) a = ap suc (same_length ss fs ds ys a.1)

no_fix_unknown : (ds : List Draft) (fs : List Fix) → list_all (λ f. has_label ds f.label) fs ≡ true → find (λ f. not (has_label ds f.label)) fs ≡ None
no_fix_unknown ds [] h = refl
no_fix_unknown ds (f ∷ fs) h = go (has_label ds f.label) h (no_fix_unknown ds fs)
  where
    go : (b : Bool) → (b && list_all (λ f. has_label ds f.label) fs) ≡ true → (list_all (λ f. has_label ds f.label) fs ≡ true → find (λ f. not (has_label ds f.label)) fs ≡ None) → cond (not b) (Some f) (find (λ f. not (has_label ds f.label)) fs) ≡ None
    go true h rec = rec h
    go false h rec = absurd (cc)

falls_to : (ss : List Statement) (next : Next (List ℕ)) (t : Next ℕ) → IsResolvedNext ss next t → falls next ≡ true → t ≡ nexts.Following
falls_to ss nexts.Following nexts.Following l f = refl
falls_to ss nexts.Following (nexts.Goto to) l f = absurd l
falls_to ss nexts.Following (nexts.Dispatch h) l f = absurd l
falls_to ss nexts.Following (nexts.Branch t a b) l f = absurd l
falls_to ss (nexts.Goto label) t l f = absurd (cc)
falls_to ss (nexts.Dispatch high) t l f = absurd (cc)
falls_to ss (nexts.Branch test high low) t l f = absurd (cc)

module _ (m : Machine) (cs : List Content) (p : MalView) (fine : IsFine cs) (is : IsProgramOf m cs p) where
  no_unknown : first_unknown (sketch_of m cs) ≡ None
  no_unknown =
      let d : unknown_draft (statements cs) (statements cs) ≡ None = ap (option_map (λ (d : Draft). d.line)) (none_unknown (statements cs) (fixes cs) p.statements fine.labels fine.fixed is.statements_are (statements cs) p.statements is.statements_are) in
      let f : unknown_fix (statements cs) (fixes cs) ≡ None = ap (option_map (λ (f : Fix). f.line)) (no_fix_unknown (statements cs) (fixes cs) is.fixes_known) in
      let b : unknown_in (statements cs) (first (fallbacks cs)) ≡ None = go (fallbacks cs) (option_to_list p.fallback) is.fallback_is in
      ap (λ o. earlier o (earlier (unknown_fix (statements cs) (fixes cs)) (unknown_in (statements cs) (first (fallbacks cs))))) d ∙ (ap (λ o. earlier o (unknown_in (statements cs) (first (fallbacks cs)))) f ∙ b)
    where
      go : (fb : List Draft) (ys : List Statement) → AreResolved p.statements (fixes cs) fb ys → unknown_in (statements cs) (first fb) ≡ None
      go [] ys a = refl
      go (d ∷ fb) [] a = absurd a
      go (d ∷ fb) (y ∷ ys) a = let k = knows_it (statements cs) (fixes cs) p.statements fine.labels fine.fixed is.statements_are d.parts.next y.next a.0.next in rw k refl

  last_leads : falling (slice_get (statements cs) (length (statements cs) - 1)) ≡ None
  last_leads = go (slice_get (statements cs) (length (statements cs) - 1)) refl
    where
      go : (o : Option Draft) → slice_get (statements cs) (length (statements cs) - 1) ≡ o → falling o ≡ None
      go None e = refl
      go (Some d) e = by_falls (falls d.parts.next) refl
        where
          by_falls : (b : Bool) → falls d.parts.next ≡ b → cond b (Some d.line) None ≡ None
          by_falls false f = refl
          by_falls true f =
              let s = both_at p.statements (fixes cs) (statements cs) p.statements (length (statements cs) - 1) d is.statements_are e in
              let w = is.whole.statements (length (statements cs) - 1) s.0 s.1 in
              let more = w.followed (falls_to p.statements d.parts.next s.0.next s.2.next f) in
              let l = same_length p.statements (fixes cs) (statements cs) p.statements is.statements_are in
              let lt = slice_get_within p.statements (length (statements cs) - 1) s.0 s.1 in
              absurd (omega (arith, more, l, lt))

  fallback_leads : falling (first (fallbacks cs)) ≡ None
  fallback_leads = go (fallbacks cs) p.fallback is.fallback_is is.whole.fallback
    where
      go : (fb : List Draft) (o : Option Statement) → AreResolved p.statements (fixes cs) fb (option_to_list o) → IfSome o (IsFallback p) → falling (first fb) ≡ None
      go [] o a w = refl
      go (d ∷ fb) None a w = absurd a
      go (d ∷ fb) (Some s) a w = by_falls (falls d.parts.next) refl
        where
          by_falls : (b : Bool) → falls d.parts.next ≡ b → cond b (Some d.line) None ≡ None
          by_falls false f = refl
          by_falls true f = absurd (w.leads (falls_to p.statements d.parts.next s.next a.0.next f))

  no_falling : first_falling (sketch_of m cs) ≡ None
  no_falling = ap (λ o. earlier o (falling (first (fallbacks cs)))) last_leads ∙ fallback_leads

  has_entry : number_of (statements cs) main1 ≡ Some p.entry
  has_entry = number_at (statements cs) p.entry main1 fine.labels (label_here (statements cs) (fixes cs) p.statements fine.labels fine.fixed is.statements_are p.entry main1 is.whole.entry)

  fallback_there : p.fallback ≡ option_map (resolved (statements cs) (fixes cs)) (first (fallbacks cs))
  fallback_there = go (fallbacks cs) p.fallback is.fallback_is
    where
      go : (fb : List Draft) (o : Option Statement) → AreResolved p.statements (fixes cs) fb (option_to_list o) → o ≡ option_map (resolved (statements cs) (fixes cs)) (first fb)
      go [] None a = refl
      go [] (Some s) a = absurd a
      go (d ∷ fb) None a = absurd a
      go (d ∷ fb) (Some s) a = ap Some (statement_there (statements cs) (fixes cs) p.statements fine.labels fine.fixed is.statements_are d s a.0)

  program_there : program_with (sketch_of m cs) p.entry ≡ p
  program_there =
      one m p.machine (map (resolved (statements cs) (fixes cs)) (statements cs)) p.statements (option_map (resolved (statements cs) (fixes cs)) (first (fallbacks cs))) p.fallback
      (sym is.machine_is) (sym (all_there (statements cs) (fixes cs) p.statements fine.labels fine.fixed is.statements_are (statements cs) p.statements is.statements_are)) (sym fallback_there)
    where
      one : (a a2 : Machine) (b b2 : List Statement) (c c2 : Option Statement) → a ≡ a2 → b ≡ b2 → c ≡ c2
          → ◌≡◌ {A = MalView} (record { machine = a; statements = b; fallback = c; entry = p.entry }) (record { machine = a2; statements = b2; fallback = c2; entry = p.entry })
      one a a2 b b2 c c2 g h i = rw (g, h, i) refl

  pub means_program : resolved_program (sketch_of m cs) ≡ Ok p
  unfolding resolved_program
  means_program =
      ap (by_unknown (sketch_of m cs)) no_unknown ∙ (ap (by_falling (sketch_of m cs)) no_falling ∙ (ap (by_entry (sketch_of m cs)) has_entry ∙ ap Ok program_there))
