-- A program with other line numbers is a program.
use Rattle.mal_parser.proofs.Common.{◌≡◌, ℕ, zero, suc, ◌+◌, ◌<◌, ◌≤◌, List, [], ◌∷◌, Option, Some, None, length, refl, sym, ap, subst, ◌∙◌, IfSome, IsSome}
use Rattle.mal_parser.proofs.Common.{slice_get, option_map, Next, Statement}
use Rattle.mal_line.specs.declared.next.Next.TheVariants as nexts
use Rattle.mal_parser.specs.Prelude.{HasTargets, IsFallback, IsLabelled, IsMalProgram, IsStatement, label_at, MalView, on_line, on_lines}

pub length_lines : (k : ℕ) (ss : List Statement) → length (on_lines k ss) ≡ length ss
length_lines k [] = refl
length_lines k (s ∷ ss) = ap suc (length_lines (k + 1) ss)

-- the statement at a place is on some line
lined_at : (k : ℕ) (ss : List Statement) (i : ℕ) (t : Statement) → slice_get (on_lines k ss) i ≡ Some t → (s : Statement) × (n : ℕ) × (slice_get ss i ≡ Some s) × (on_line n s ≡ t)
lined_at k [] i t h = absurd (cc)
lined_at k (s ∷ ss) zero t h = (s, k, refl, let e : on_line k s ≡ t = cc in e)
lined_at k (s ∷ ss) (suc i) t h = lined_at (k + 1) ss i t h

pub label_lined : (k : ℕ) (ss : List Statement) (i : ℕ) → label_at (on_lines k ss) i ≡ label_at ss i
label_lined k [] i = refl
label_lined k (s ∷ ss) zero = refl
label_lined k (s ∷ ss) (suc i) = label_lined (k + 1) ss i

module _ (k : ℕ) (ss : List Statement) where
  labelled_lined : (i : ℕ) → IsLabelled ss i → IsLabelled (on_lines k ss) i
  labelled_lined i h = subst IsSome (sym (label_lined k ss i)) h

  targets_lined : (next : Next ℕ) → HasTargets ss next → HasTargets (on_lines k ss) next
  targets_lined nexts.Following h = tt
  targets_lined (nexts.Goto to) h = labelled_lined to h
  targets_lined (nexts.Dispatch high) h = tt
  targets_lined (nexts.Branch test high low) h = (labelled_lined high h.0, labelled_lined low h.1)

module _ (p : MalView) (k n : ℕ) where
  -- on other lines
  abbrev pub other : MalView
  other = record { machine = p.machine; statements = on_lines k p.statements; fallback = option_map (on_line n) p.fallback; entry = p.entry }

  statement_lined : (i m : ℕ) (s : Statement) → IsStatement p i s → IsStatement other i (on_line m s)
  statement_lined i m s h = record {
    part = h.part;
    targets = targets_lined k p.statements s.next h.targets;
    followed = λ e. subst (λ l. i + 1 < l) (sym (length_lines k p.statements)) (h.followed e);
    label = h.label;
    fixed = h.fixed;
  }

  fallback_lined : (s : Statement) → IsFallback p s → IsFallback other (on_line n s)
  fallback_lined s h = record {
    part = h.part;
    targets = targets_lined k p.statements s.next h.targets;
    leads = h.leads;
    label = h.label;
    fixed = h.fixed;
  }

  pub program_lined : IsMalProgram p → IsMalProgram other
  program_lined h = record {
    some = subst (λ l. 0 < l) (sym (length_lines k p.statements)) h.some;
    few = subst (λ l. l ≤ 512) (sym (length_lines k p.statements)) h.few;
    statements = λ i t e. at i t (lined_at k p.statements i t e);
    labels = λ s t name e f. h.labels s t name (sym (label_lined k p.statements s) ∙ e) (sym (label_lined k p.statements t) ∙ f);
    fallback = unused p.fallback h.fallback;
    entry = label_lined k p.statements p.entry ∙ h.entry;
  }
    where
      at : (i : ℕ) (t : Statement) → (s : Statement) × (m : ℕ) × (slice_get p.statements i ≡ Some s) × (on_line m s ≡ t) → IsStatement other i t
      at i t x = subst (IsStatement other i) x.3 (statement_lined i x.1 x.0 (h.statements i x.0 x.2))

      unused : (o : Option Statement) → IfSome o (IsFallback p) → IfSome (option_map (on_line n) o) (IsFallback other)
      unused None g = g
      unused (Some s) g = fallback_lined s g
