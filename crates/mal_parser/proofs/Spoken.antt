-- What the lines of a canonical text say.
use Rattle.mal_parser.proofs.Common.{◌≡◌, ℕ, zero, suc, ◌<◌, true, List, [], ◌∷◌, ◌++◌, Option, Some, None, refl, ap, subst, IfSome, IsSome, pos, map}
use Rattle.mal_parser.proofs.Common.{slice_get, unwrap_or, option_map, option_and_then, option_to_list, cons_option, filter_map, SayAll, Machine, is_part}
use Rattle.mal_parser.proofs.Common.{IsLabelText, Content, Parts, Next, by_targets, printed, fallback, fix, HasLabels, labelled, statement, IsLineOf}
use Rattle.mal_parser.proofs.Common.{FallbacksAreReadBack, FixesAreReadBack, StatementsAreReadBack, Statement}
use Rattle.mal_line.specs.declared.content.Content.TheVariants as said
use Rattle.mal_line.specs.declared.next.Next.TheVariants as nexts
use Rattle.mal_parser.specs.Prelude.{HasTargets, IsFallback, IsLabelled, IsMalProgram, label_at, MalView, by_labels, canonical_lines, default_line, fix_line, labelled_line, grammar}
use Rattle.mal_parser.proofs.Printed.{ArePlain, plain_append}

-- ---- what is said

abbrev pub name_of : List Statement → ℕ → List ℕ
name_of ss to = unwrap_or (label_at ss to) []

abbrev pub named_next : List Statement → Next ℕ → Next (List ℕ)
named_next ss next = by_targets (name_of ss) next

abbrev pub parts_for : List Statement → Statement → Parts
parts_for all s = record { part = s.part; next = named_next all s.next }

abbrev pub fix_said_by : Option (List ℕ) → Option ℕ → Option Content
fix_said_by (Some label) (Some address) = Some (said.Fix label (pos address))
fix_said_by _ _ = None

abbrev pub fix_content : Statement → Option Content
fix_content s = fix_said_by s.label s.fixed

abbrev pub default_content : List Statement → Statement → Content
default_content all s = said.Fallback (parts_for all s)

abbrev pub statement_content : List Statement → Statement → Content
statement_content all s = said.Statement s.label (parts_for all s)

abbrev pub content_of : MalView → List Content
content_of p = filter_map fix_content p.statements ++ (option_to_list (option_map (default_content p.statements) p.fallback) ++ map (statement_content p.statements) p.statements)

-- ---- one line

same_next : (ss : List Statement) (next : Next ℕ) → labelled (named_next ss next) ≡ by_labels ss next
same_next ss nexts.Following = refl
same_next ss _ = refl

-- lines that say this and are plain
record AreSaid (m : Machine) (ls : List (List ℕ)) (cs : List Content) : Type 0 where
  says : SayAll (grammar m) ls cs
  plain : ArePlain ls

says_append : (m : Machine) (ls ms : List (List ℕ)) (cs ds : List Content) → SayAll (grammar m) ls cs → SayAll (grammar m) ms ds → SayAll (grammar m) (ls ++ ms) (cs ++ ds)
says_append m [] ms [] ds h g = g
says_append m [] ms (c ∷ cs) ds h g = absurd h
says_append m (l ∷ ls) ms [] ds h g = absurd h
says_append m (l ∷ ls) ms (c ∷ cs) ds h g = (h.0, says_append m ls ms cs ds h.1 g)

said_append : (m : Machine) (ls ms : List (List ℕ)) (cs ds : List Content) → AreSaid m ls cs → AreSaid m ms ds → AreSaid m (ls ++ ms) (cs ++ ds)
said_append m ls ms cs ds h g = record { says = says_append m ls ms cs ds h.says g.says; plain = plain_append ls ms h.plain g.plain }

said_none : (m : Machine) → AreSaid m [] []
said_none m = record { says = tt; plain = tt }

said_more : (m : Machine) (l : List ℕ) (c : Content) (ls : List (List ℕ)) (cs : List Content) → IsLineOf m l c → AreSaid m ls cs → AreSaid m (l ∷ ls) (c ∷ cs)
said_more m l c ls cs h g = record { says = (record { sequence = h.sequence; spelled = h.spelled; means = h.means }, g.says); plain = (h.plain, g.plain) }

-- ---- all lines

-- what is known of a statement
record IsSayable (m : Machine) (all : List Statement) (s : Statement) : Type 0 where
  part : is_part m s.part ≡ true
  next : HasLabels (named_next all s.next)
  label : IfSome s.label IsLabelText
  fixed : IfSome s.fixed (λ address. address < 512)

abbrev pub Each : {A : Type 0} → (A → Type 0) → List A → Type 0
Each P [] = Unit {0}
Each P (x ∷ xs) = P x × Each P xs

pub each_at : {A : Type 0} (P : A → Type 0) (xs : List A) → ((i : ℕ) (x : A) → slice_get xs i ≡ Some x → P x) → Each P xs
each_at P [] h = tt
each_at P (x ∷ xs) h = (h zero x refl, each_at P xs (λ i y e. h (suc i) y e))

-- a canonical line spells what it was printed from, as the law of its printer says
pub record LinesSpell : Type 0 where
  pub statements : StatementsAreReadBack
  pub fallbacks : FallbacksAreReadBack
  pub fixes : FixesAreReadBack

module _ (laws : LinesSpell) (p : MalView) (h : IsMalProgram p) where
  label_text : (i : ℕ) (label : List ℕ) → label_at p.statements i ≡ Some label → IsLabelText label
  label_text i label e = go (slice_get p.statements i) refl e
    where
      go : (o : Option Statement) → slice_get p.statements i ≡ o → option_and_then (λ (s : Statement). s.label) o ≡ Some label → IsLabelText label
      go None f e = absurd (cc)
      go (Some s) f e = subst (λ o. IfSome o IsLabelText) e (h.statements i s f).label

  target_text : (to : ℕ) → IsLabelled p.statements to → IsLabelText (name_of p.statements to)
  target_text to some = go (label_at p.statements to) refl some
    where
      go : (o : Option (List ℕ)) → label_at p.statements to ≡ o → IsSome o → IsLabelText (unwrap_or o [])
      go None e some = absurd (cc)
      go (Some label) e some = label_text to label e

  next_texts : (next : Next ℕ) → HasTargets p.statements next → HasLabels (named_next p.statements next)
  next_texts nexts.Following t = tt
  next_texts (nexts.Goto to) t = target_text to t
  next_texts (nexts.Dispatch high) t = tt
  next_texts (nexts.Branch test high low) t = (target_text high t.0, target_text low t.1)

  sayable : (i : ℕ) (s : Statement) → slice_get p.statements i ≡ Some s → IsSayable p.machine p.statements s
  sayable i s e = let g = h.statements i s e in record {
    part = g.part;
    next = next_texts s.next g.targets;
    label = labelled_by s.label (ap (option_and_then (λ (s : Statement). s.label)) e);
    fixed = below s.fixed g.fixed;
  }
    where
      labelled_by : (o : Option (List ℕ)) → label_at p.statements i ≡ o → IfSome o IsLabelText
      labelled_by None f = tt
      labelled_by (Some label) f = label_text i label f

      below : (o : Option ℕ) → IfSome o (λ address. (address < 512) × IsSome s.label) → IfSome o (λ address. address < 512)
      below None g = tt
      below (Some address) g = g.0

  said_fixes : (ss : List Statement) → Each (IsSayable p.machine p.statements) ss → AreSaid p.machine (filter_map fix_line ss) (filter_map fix_content ss)
  said_fixes [] e = said_none p.machine
  said_fixes (s ∷ ss) e = go s.label s.fixed e.0.label e.0.fixed (said_fixes ss e.1)
    where
      go : (o : Option (List ℕ)) (f : Option ℕ) → IfSome o IsLabelText → IfSome f (λ address. address < 512) → AreSaid p.machine (filter_map fix_line ss) (filter_map fix_content ss)
          → AreSaid p.machine (cons_option (option_and_then (λ label. option_map (λ address. printed (fix label address)) f) o) (filter_map fix_line ss)) (cons_option (fix_said_by o f) (filter_map fix_content ss))
      go None f l a r = r
      go (Some label) None l a r = r
      go (Some label) (Some address) l a r = said_more p.machine (printed (fix label address)) (said.Fix label (pos address)) (filter_map fix_line ss) (filter_map fix_content ss) (laws.fixes p.machine label address l a) r

  said_statements : (ss : List Statement) → Each (IsSayable p.machine p.statements) ss → AreSaid p.machine (map (labelled_line p) ss) (map (statement_content p.statements) ss)
  said_statements [] e = said_none p.machine
  said_statements (s ∷ ss) e =
      said_more p.machine (labelled_line p s) (statement_content p.statements s) (map (labelled_line p) ss) (map (statement_content p.statements) ss)
      (subst (λ n. IsLineOf p.machine (printed (statement p.machine s.label s.part n)) (statement_content p.statements s)) (same_next p.statements s.next)
      (laws.statements p.machine s.label (parts_for p.statements s) e.0.part e.0.label e.0.next))
      (said_statements ss e.1)

  said_default : (o : Option Statement) → IfSome o (IsFallback p) → AreSaid p.machine (option_to_list (option_map (default_line p) o)) (option_to_list (option_map (default_content p.statements) o))
  said_default None g = said_none p.machine
  said_default (Some s) g =
      said_more p.machine (default_line p s) (default_content p.statements s) [] []
      (subst (λ n. IsLineOf p.machine (printed (fallback p.machine s.part n)) (default_content p.statements s)) (same_next p.statements s.next)
      (laws.fallbacks p.machine (parts_for p.statements s) g.part (next_texts s.next g.targets)))
      (said_none p.machine)

  all_said : AreSaid p.machine (canonical_lines p) (content_of p)
  all_said =
      let e = each_at (IsSayable p.machine p.statements) p.statements sayable in
      said_append p.machine (filter_map fix_line p.statements) (option_to_list (option_map (default_line p) p.fallback) ++ map (labelled_line p) p.statements)
      (filter_map fix_content p.statements) (option_to_list (option_map (default_content p.statements) p.fallback) ++ map (statement_content p.statements) p.statements)
      (said_fixes p.statements e)
      (said_append p.machine (option_to_list (option_map (default_line p) p.fallback)) (map (labelled_line p) p.statements)
      (option_to_list (option_map (default_content p.statements) p.fallback)) (map (statement_content p.statements) p.statements)
      (said_default p.fallback h.fallback)
      (said_statements p.statements e))

  pub lines_say : SayAll (grammar p.machine) (canonical_lines p) (content_of p)
  lines_say = all_said.says

  pub lines_plain : ArePlain (canonical_lines p)
  lines_plain = all_said.plain
