-- The lines of a canonical text make the program that was printed.
use Rattle.mal_parser.proofs.Common.{◌≡◌, ℕ, zero, suc, ◌+◌, ◌<◌, ◌≤◌, Bool, true, false, List, [], ◌∷◌, ◌++◌, Option, Some, None, length, refl, sym, ap, subst}
use Rattle.mal_parser.proofs.Common.{◌∙◌, arith, cond, ◌||◌, ◌&&◌, IfSome, IsSome, pos, map, nat_lt, slice_get, unwrap_or, option_map, option_and_then}
use Rattle.mal_parser.proofs.Common.{option_to_list, find, cons_option, filter_map, list_all, bytes_eq, nat_tests, or_from, or_right, SayAll, Content, Next}
use Rattle.mal_parser.proofs.Common.{printed, fix, is_called, Draft, Fix, Statement}
use Rattle.mal_line.specs.declared.next.Next.TheVariants as nexts
use Rattle.mal_parser.specs.Prelude.{address_of, AreDistinct, fix_labels, has_label, is_among, labels_of, AreAddresses, AreResolved, fallbacks, fallbacks_from, fixes, fixes_from, grammar, IsFine, IsFixedBy, IsProgramOf, IsResolvedNext, SpellsProgram, statements, statements_from, address_at, fixed_of, HasTargets, IsFallback, IsLabelled, IsMalProgram, label_at, MalView, canonical_text, canonical_lines, fix_count, fix_line, on_line, on_lines, relined}
use Rattle.mal_parser.proofs.Resolved.{same_text, text_same}
use Rattle.mal_parser.proofs.Fixing.{fixed_is}
use Rattle.mal_parser.proofs.Printed.{contents_text}
use Rattle.mal_parser.proofs.Relined.{label_lined, program_lined}
use Rattle.mal_parser.proofs.Spoken.{content_of, default_content, Each, each_at, fix_content, fix_said_by, lines_plain, LinesSpell, lines_say, name_of, named_next, parts_for, statement_content}

-- ---- the drafts that the lines make

abbrev draft : List Statement → ℕ → Statement → Draft
draft all k s = record { label = s.label; line = k; parts = parts_for all s }

abbrev drafts : List Statement → ℕ → List Statement → List Draft
drafts all k [] = []
drafts all k (s ∷ ss) = draft all k s ∷ drafts all (k + 1) ss

abbrev default_draft : List Statement → ℕ → Statement → Draft
default_draft all k s = record { label = None; line = k; parts = parts_for all s }

abbrev fixed_by : ℕ → Option (List ℕ) → Option ℕ → (ℕ → List Fix) → List Fix
fixed_by k (Some label) (Some address) rest = (record { label = label; line = k; address = address }) ∷ rest (k + 1)
fixed_by k _ _ rest = rest k

abbrev fixes_at : List Statement → ℕ → List Fix
fixes_at [] k = []
fixes_at (s ∷ ss) k = fixed_by k s.label s.fixed (λ n. fixes_at ss n)

abbrev default_list : List Statement → Option Statement → List Content
default_list all o = option_to_list (option_map (default_content all) o)

-- ---- statements

after_fixes : (ss : List Statement) (k : ℕ) (rest : List Content) → statements_from k (filter_map fix_content ss ++ rest) ≡ statements_from (k + length (filter_map fix_line ss)) rest
after_fixes [] k rest = let e : k ≡ k + 0 = omega arith in ap (λ n. statements_from n rest) e
after_fixes (s ∷ ss) k rest = go s.label s.fixed (λ n. after_fixes ss n rest)
  where
    go : (o : Option (List ℕ)) (f : Option ℕ) → ((n : ℕ) → statements_from n (filter_map fix_content ss ++ rest) ≡ statements_from (n + length (filter_map fix_line ss)) rest) → statements_from k (cons_option (fix_said_by o f) (filter_map fix_content ss) ++ rest) ≡ statements_from (k + length (cons_option (option_and_then (λ label. option_map (λ address. printed (fix label address)) f) o) (filter_map fix_line ss))) rest
    go None f rec = rec k
    go (Some label) None rec = rec k
    go (Some label) (Some address) rec =
        let n = length (filter_map fix_line ss) in
        let e : (k + 1) + n ≡ k + suc n = omega arith in
        rec (k + 1) ∙ ap (λ n. statements_from n rest) e

after_default : (all : List Statement) (o : Option Statement) (k : ℕ) (rest : List Content) → statements_from k (default_list all o ++ rest) ≡ statements_from (k + length (option_to_list o)) rest
after_default all None k rest = let e : k ≡ k + 0 = omega arith in ap (λ n. statements_from n rest) e
after_default all (Some s) k rest = refl

said_drafts : (all ss : List Statement) (k : ℕ) → statements_from k (map (statement_content all) ss) ≡ drafts all k ss
said_drafts all [] k = refl
said_drafts all (s ∷ ss) k = ap (λ ds. draft all k s ∷ ds) (said_drafts all ss (k + 1))

-- ---- fixed addresses

no_fixes : (all ss : List Statement) (k : ℕ) → fixes_from k (map (statement_content all) ss) ≡ []
no_fixes all [] k = refl
no_fixes all (s ∷ ss) k = no_fixes all ss (k + 1)

no_fixes_after : (all : List Statement) (o : Option Statement) (ss : List Statement) (k : ℕ) → fixes_from k (default_list all o ++ map (statement_content all) ss) ≡ []
no_fixes_after all None ss k = no_fixes all ss k
no_fixes_after all (Some s) ss k = no_fixes all ss (k + 1)

address_is : (address : ℕ) → address < 512 → address_of (pos address) ≡ Some address
address_is address lt = let t : nat_lt address 512 ≡ true = grind (arith, nat_tests) in ap (λ b. cond b (Some address) None) t

abbrev Below : Statement → Type 0
Below s = IfSome s.fixed (λ address. address < 512)

said_fixes : (ss : List Statement) (rest : List Content) (k : ℕ) → Each Below ss → ((n : ℕ) → fixes_from n rest ≡ []) → fixes_from k (filter_map fix_content ss ++ rest) ≡ fixes_at ss k
said_fixes [] rest k b none = none k
said_fixes (s ∷ ss) rest k b none = go s.label s.fixed b.0 (λ n. said_fixes ss rest n b.1 none)
  where
    go : (o : Option (List ℕ)) (f : Option ℕ) → IfSome f (λ address. address < 512) → ((n : ℕ) → fixes_from n (filter_map fix_content ss ++ rest) ≡ fixes_at ss n) → fixes_from k (cons_option (fix_said_by o f) (filter_map fix_content ss) ++ rest) ≡ fixed_by k o f (λ n. fixes_at ss n)
    go None f a rec = rec k
    go (Some label) None a rec = rec k
    go (Some label) (Some address) a rec =
        ap (λ x. cons_option (option_map (λ (address : ℕ). record { label = label; line = k; address = address }) x) (fixes_from (k + 1) (filter_map fix_content ss ++ rest))) (address_is address a)
        ∙ ap (λ fs. (record { label = label; line = k; address = address }) ∷ fs) (rec (k + 1))

addresses_none : (all ss : List Statement) → AreAddresses (map (statement_content all) ss)
addresses_none all [] = tt
addresses_none all (s ∷ ss) = addresses_none all ss

addresses_after : (all : List Statement) (o : Option Statement) (ss : List Statement) → AreAddresses (default_list all o ++ map (statement_content all) ss)
addresses_after all None ss = addresses_none all ss
addresses_after all (Some s) ss = addresses_none all ss

said_addresses : (ss : List Statement) (rest : List Content) → Each Below ss → AreAddresses rest → AreAddresses (filter_map fix_content ss ++ rest)
said_addresses [] rest b a = a
said_addresses (s ∷ ss) rest b a = go s.label s.fixed b.0 (said_addresses ss rest b.1 a)
  where
    go : (o : Option (List ℕ)) (f : Option ℕ) → IfSome f (λ address. address < 512) → AreAddresses (filter_map fix_content ss ++ rest) → AreAddresses (cons_option (fix_said_by o f) (filter_map fix_content ss) ++ rest)
    go None f lt rec = rec
    go (Some label) None lt rec = rec
    go (Some label) (Some address) lt rec = (subst IsSome (sym (address_is address lt)) refl, rec)

-- ---- what unused words hold

no_fallbacks : (all ss : List Statement) (k : ℕ) → fallbacks_from k (map (statement_content all) ss) ≡ []
no_fallbacks all [] k = refl
no_fallbacks all (s ∷ ss) k = no_fallbacks all ss (k + 1)

fallbacks_after : (ss : List Statement) (k : ℕ) (rest : List Content) → fallbacks_from k (filter_map fix_content ss ++ rest) ≡ fallbacks_from (k + length (filter_map fix_line ss)) rest
fallbacks_after [] k rest = let e : k ≡ k + 0 = omega arith in ap (λ n. fallbacks_from n rest) e
fallbacks_after (s ∷ ss) k rest = go s.label s.fixed (λ n. fallbacks_after ss n rest)
  where
    go : (o : Option (List ℕ)) (f : Option ℕ) → ((n : ℕ) → fallbacks_from n (filter_map fix_content ss ++ rest) ≡ fallbacks_from (n + length (filter_map fix_line ss)) rest) → fallbacks_from k (cons_option (fix_said_by o f) (filter_map fix_content ss) ++ rest) ≡ fallbacks_from (k + length (cons_option (option_and_then (λ label. option_map (λ address. printed (fix label address)) f) o) (filter_map fix_line ss))) rest
    go None f rec = rec k
    go (Some label) None rec = rec k
    go (Some label) (Some address) rec =
        let n = length (filter_map fix_line ss) in
        let e : (k + 1) + n ≡ k + suc n = omega arith in
        rec (k + 1) ∙ ap (λ n. fallbacks_from n rest) e

said_default : (all : List Statement) (o : Option Statement) (ss : List Statement) (k : ℕ) → fallbacks_from k (default_list all o ++ map (statement_content all) ss) ≡ option_to_list (option_map (default_draft all k) o)
said_default all None ss k = no_fallbacks all ss k
said_default all (Some s) ss k = ap (λ ds. default_draft all k s ∷ ds) (no_fallbacks all ss (k + 1))

-- ---- labels that stand once

abbrev OneEach : List Statement → Type 0
OneEach ss = (s t : ℕ) (name : List ℕ) → label_at ss s ≡ Some name → label_at ss t ≡ Some name → s ≡ t

-- no statement has the label
abbrev IsForeign : List ℕ → List Statement → Type 0
IsForeign label ss = (i : ℕ) (name : List ℕ) → label_at ss i ≡ Some name → bytes_eq name label ≡ false

one_later : (s : Statement) (ss : List Statement) → OneEach (s ∷ ss) → OneEach ss
one_later s ss one i j name e f = let k : suc i ≡ suc j = one (suc i) (suc j) name e f in omega arith

foreign_later : (label : List ℕ) (s : Statement) (ss : List Statement) → IsForeign label (s ∷ ss) → IsForeign label ss
foreign_later label s ss f i name e = f (suc i) name e

foreign_after : (s : Statement) (ss : List Statement) (label : List ℕ) → OneEach (s ∷ ss) → s.label ≡ Some label → IsForeign label ss
foreign_after s ss label one h i name e = go (bytes_eq name label) refl
  where
    go : (b : Bool) → bytes_eq name label ≡ b → b ≡ false
    go false f = refl
    go true f = let k : suc i ≡ zero = one (suc i) zero label (e ∙ ap Some (same_text name label f)) h in absurd (omega arith)

foreign_labels : (all : List Statement) (ss : List Statement) (k : ℕ) (label : List ℕ) → IsForeign label ss → is_among label (labels_of (drafts all k ss)) ≡ false
foreign_labels all [] k label f = refl
foreign_labels all (s ∷ ss) k label f = go s.label refl (foreign_labels all ss (k + 1) label (foreign_later label s ss f))
  where
    go : (o : Option (List ℕ)) → s.label ≡ o → is_among label (labels_of (drafts all (k + 1) ss)) ≡ false → is_among label (cons_option o (labels_of (drafts all (k + 1) ss))) ≡ false
    go None e rec = rec
    go (Some name) e rec = or_from (bytes_eq name label) (is_among label (labels_of (drafts all (k + 1) ss))) (f zero name e) rec

distinct_labels : (all : List Statement) (ss : List Statement) (k : ℕ) → OneEach ss → AreDistinct (labels_of (drafts all k ss))
distinct_labels all [] k one = tt
distinct_labels all (s ∷ ss) k one = go s.label refl (distinct_labels all ss (k + 1) (one_later s ss one))
  where
    go : (o : Option (List ℕ)) → s.label ≡ o → AreDistinct (labels_of (drafts all (k + 1) ss)) → AreDistinct (cons_option o (labels_of (drafts all (k + 1) ss)))
    go None e rec = rec
    go (Some name) e rec = (foreign_labels all ss (k + 1) name (foreign_after s ss name one e), rec)

foreign_fixes : (ss : List Statement) (k : ℕ) (label : List ℕ) → IsForeign label ss → is_among label (fix_labels (fixes_at ss k)) ≡ false
foreign_fixes [] k label f = refl
foreign_fixes (s ∷ ss) k label f = go s.label s.fixed refl (λ n. foreign_fixes ss n label (foreign_later label s ss f))
  where
    go : (o : Option (List ℕ)) (a : Option ℕ) → s.label ≡ o → ((n : ℕ) → is_among label (fix_labels (fixes_at ss n)) ≡ false) → is_among label (fix_labels (fixed_by k o a (λ n. fixes_at ss n))) ≡ false
    go None a e rec = rec k
    go (Some name) None e rec = rec k
    go (Some name) (Some address) e rec = or_from (bytes_eq name label) (is_among label (fix_labels (fixes_at ss (k + 1)))) (f zero name e) (rec (k + 1))

distinct_fixes : (ss : List Statement) (k : ℕ) → OneEach ss → AreDistinct (fix_labels (fixes_at ss k))
distinct_fixes [] k one = tt
distinct_fixes (s ∷ ss) k one = go s.label s.fixed refl (λ n. distinct_fixes ss n (one_later s ss one))
  where
    go : (o : Option (List ℕ)) (a : Option ℕ) → s.label ≡ o → ((n : ℕ) → AreDistinct (fix_labels (fixes_at ss n))) → AreDistinct (fix_labels (fixed_by k o a (λ n. fixes_at ss n)))
    go None a e rec = rec k
    go (Some name) None e rec = rec k
    go (Some name) (Some address) e rec = (foreign_fixes ss (k + 1) name (foreign_after s ss name one e), rec (k + 1))

-- ---- the address of a label

foreign_address : (ss : List Statement) (k : ℕ) (label : List ℕ) → IsForeign label ss → address_at (fixes_at ss k) label ≡ None
foreign_address [] k label f = refl
foreign_address (s ∷ ss) k label f = go s.label s.fixed refl (λ n. foreign_address ss n label (foreign_later label s ss f))
  where
    go : (o : Option (List ℕ)) (a : Option ℕ) → s.label ≡ o → ((n : ℕ) → address_at (fixes_at ss n) label ≡ None) → address_at (fixed_by k o a (λ n. fixes_at ss n)) label ≡ None
    go None a e rec = rec k
    go (Some name) None e rec = rec k
    go (Some name) (Some address) e rec =
        ap (λ b. option_map (λ (x : Fix). x.address) (cond b (Some (record { label = name; line = k; address = address })) (find (λ x. bytes_eq x.label label) (fixes_at ss (k + 1))))) (f zero name e)
        ∙ rec (k + 1)

address_here : (ss : List Statement) (k i : ℕ) (s : Statement) (label : List ℕ) → OneEach ss → slice_get ss i ≡ Some s → s.label ≡ Some label → address_at (fixes_at ss k) label ≡ s.fixed
address_here [] k i s label one h e = absurd (cc)
address_here (x ∷ ss) k zero s label one h e =
    let q : x ≡ s = cc in
    subst (λ (t : Statement). address_at (fixes_at (x ∷ ss) k) label ≡ t.fixed) q (go x.label x.fixed (ap (λ (t : Statement). t.label) q ∙ e))
  where
    go : (o : Option (List ℕ)) (a : Option ℕ) → o ≡ Some label → address_at (fixed_by k o a (λ n. fixes_at ss n)) label ≡ a
    go None a f = absurd (cc)
    go (Some name) None f = foreign_address ss k label (foreign_after x ss label one (let q : x ≡ s = cc in ap (λ (t : Statement). t.label) q ∙ e))
    go (Some name) (Some address) f =
        let n : name ≡ label = cc in
        ap (λ b. option_map (λ (x : Fix). x.address) (cond b (Some (record { label = name; line = k; address = address })) (find (λ x. bytes_eq x.label label) (fixes_at ss (k + 1))))) (ap (bytes_eq name) (sym n) ∙ text_same name)
address_here (x ∷ ss) k (suc i) s label one h e = go x.label x.fixed refl (λ n. address_here ss n i s label (one_later x ss one) h e)
  where
    there : label_at ss i ≡ Some label
    there = ap (option_and_then (λ (t : Statement). t.label)) h ∙ e

    go : (o : Option (List ℕ)) (a : Option ℕ) → x.label ≡ o → ((n : ℕ) → address_at (fixes_at ss n) label ≡ s.fixed) → address_at (fixed_by k o a (λ n. fixes_at ss n)) label ≡ s.fixed
    go None a f rec = rec k
    go (Some name) None f rec = rec k
    go (Some name) (Some address) f rec =
        ap (λ b. option_map (λ (x : Fix). x.address) (cond b (Some (record { label = name; line = k; address = address })) (find (λ x. bytes_eq x.label label) (fixes_at ss (k + 1))))) (apart (bytes_eq name label) refl)
        ∙ rec (k + 1)
      where
        apart : (b : Bool) → bytes_eq name label ≡ b → b ≡ false
        apart false g = refl
        apart true g = let n : zero ≡ suc i = one zero (suc i) label (f ∙ ap Some (same_text name label g)) there in absurd (omega arith)

-- ---- labels that are known

has_draft : (all ss : List Statement) (k i : ℕ) (s : Statement) (label : List ℕ) → slice_get ss i ≡ Some s → s.label ≡ Some label → has_label (drafts all k ss) label ≡ true
has_draft all [] k i s label h e = absurd (cc)
has_draft all (x ∷ ss) k zero s label h e = go x.label (let q : x ≡ s = cc in ap (λ (t : Statement). t.label) q ∙ e)
  where
    go : (o : Option (List ℕ)) → o ≡ Some label → (is_called label o || has_label (drafts all (k + 1) ss) label) ≡ true
    go None f = absurd (cc)
    go (Some name) f = let n : name ≡ label = cc in ap (λ b. b || has_label (drafts all (k + 1) ss) label) (ap (bytes_eq name) (sym n) ∙ text_same name)
has_draft all (x ∷ ss) k (suc i) s label h e =
    or_right (is_called label x.label) (has_label (drafts all (k + 1) ss) label) (has_draft all ss (k + 1) i s label h e)

known_fixes : (ds : List Draft) (xs : List Statement) (k : ℕ) → ((i : ℕ) (s : Statement) (label : List ℕ) → slice_get xs i ≡ Some s → s.label ≡ Some label → has_label ds label ≡ true) → list_all (λ f. has_label ds f.label) (fixes_at xs k) ≡ true
known_fixes ds [] k h = refl
known_fixes ds (x ∷ xs) k h = go x.label x.fixed refl (λ n. known_fixes ds xs n later)
  where
    later : (i : ℕ) (s : Statement) (label : List ℕ) → slice_get xs i ≡ Some s → s.label ≡ Some label → has_label ds label ≡ true
    later i s label e f = h (suc i) s label e f

    go : (o : Option (List ℕ)) (a : Option ℕ) → x.label ≡ o → ((n : ℕ) → list_all (λ f. has_label ds f.label) (fixes_at xs n) ≡ true) → list_all (λ f. has_label ds f.label) (fixed_by k o a (λ n. fixes_at xs n)) ≡ true
    go None a e rec = rec k
    go (Some name) None e rec = rec k
    go (Some name) (Some address) e rec = ap (λ b. b && list_all (λ f. has_label ds f.label) (fixes_at xs (k + 1))) (h zero x name refl e) ∙ rec (k + 1)

-- ---- the program

length_drafts : (all ss : List Statement) (k : ℕ) → length (drafts all k ss) ≡ length ss
length_drafts all [] k = refl
length_drafts all (s ∷ ss) k = ap suc (length_drafts all ss (k + 1))

module _ (ss : List Statement) (k : ℕ) where
  name_here : (to : ℕ) → IsLabelled ss to → label_at (on_lines k ss) to ≡ Some (name_of ss to)
  name_here to h = label_lined k ss to ∙ go (label_at ss to) h
    where
      go : (o : Option (List ℕ)) → IsSome o → o ≡ Some (unwrap_or o [])
      go None h = absurd (cc)
      go (Some name) h = refl

  leads_there : (next : Next ℕ) → HasTargets ss next → IsResolvedNext (on_lines k ss) (named_next ss next) next
  leads_there nexts.Following h = tt
  leads_there (nexts.Goto to) h = name_here to h
  leads_there (nexts.Dispatch high) h = refl
  leads_there (nexts.Branch test high low) h = (refl, name_here high h.0, name_here low h.1)

  record IsBound (fs : List Fix) (s : Statement) : Type 0 where
    targets : HasTargets ss s.next
    fixed : s.fixed ≡ fixed_of fs s.label

  all_resolve : (fs : List Fix) (xs : List Statement) (n : ℕ) → Each (IsBound fs) xs → AreResolved (on_lines k ss) fs (drafts ss n xs) (on_lines n xs)
  all_resolve fs [] n h = tt
  all_resolve fs (x ∷ xs) n h = (record { label = refl; line = refl; part = refl; next = leads_there x.next h.0.targets; fixed = subst (IsFixedBy fs x.label) (sym h.0.fixed) (fixed_is fs x.label) }, all_resolve fs xs (n + 1) h.1)

-- an address is fixed only where there is a label
unlabelled : (o : Option (List ℕ)) (f : Option ℕ) → o ≡ None → IfSome f (λ address. (address < 512) × IsSome o) → f ≡ None
unlabelled o None e h = refl
unlabelled o (Some address) e h = let g = subst IsSome e h.1 in absurd (cc)

module _ (p : MalView) (h : IsMalProgram p) where
  abbrev begin : ℕ
  begin = 1 + fix_count p + length (option_to_list p.fallback)

  below_all : Each Below p.statements
  below_all = each_at Below p.statements (λ i s e. below s.fixed s.label (h.statements i s e).fixed)
    where
      below : (f : Option ℕ) (o : Option (List ℕ)) → IfSome f (λ address. (address < 512) × IsSome o) → IfSome f (λ address. address < 512)
      below None o g = tt
      below (Some address) o g = g.0

  statements_are : statements (content_of p) ≡ drafts p.statements begin p.statements
  statements_are =
      after_fixes p.statements 1 (default_list p.statements p.fallback ++ map (statement_content p.statements) p.statements)
      ∙ (after_default p.statements p.fallback (1 + fix_count p) (map (statement_content p.statements) p.statements)
      ∙ said_drafts p.statements p.statements begin)

  fixes_are : fixes (content_of p) ≡ fixes_at p.statements 1
  fixes_are = said_fixes p.statements (default_list p.statements p.fallback ++ map (statement_content p.statements) p.statements) 1 below_all (λ n. no_fixes_after p.statements p.fallback p.statements n)

  fallbacks_are : fallbacks (content_of p) ≡ option_to_list (option_map (default_draft p.statements (1 + fix_count p)) p.fallback)
  fallbacks_are =
      fallbacks_after p.statements 1 (default_list p.statements p.fallback ++ map (statement_content p.statements) p.statements)
      ∙ said_default p.statements p.fallback p.statements (1 + fix_count p)

  is_fine : IsFine (content_of p)
  is_fine = record {
    labels = subst (λ ds. AreDistinct (labels_of ds)) (sym statements_are) (distinct_labels p.statements p.statements begin h.labels);
    few = subst (λ ds. length ds ≤ 512) (sym statements_are) (subst (λ n. n ≤ 512) (sym (length_drafts p.statements p.statements begin)) h.few);
    addresses = said_addresses p.statements (default_list p.statements p.fallback ++ map (statement_content p.statements) p.statements) below_all (addresses_after p.statements p.fallback p.statements);
    fixed = subst (λ fs. AreDistinct (fix_labels fs)) (sym fixes_are) (distinct_fixes p.statements 1 h.labels);
    one_default = subst (λ ds. length ds ≤ 1) (sym fallbacks_are) (one p.fallback);
  }
    where
      one : (o : Option Statement) → length (option_to_list (option_map (default_draft p.statements (1 + fix_count p)) o)) ≤ 1
      one None = omega arith
      one (Some s) = omega arith

  bound : (i : ℕ) (s : Statement) → slice_get p.statements i ≡ Some s → IsBound p.statements begin (fixes_at p.statements 1) s
  bound i s e = let g = h.statements i s e in record { targets = g.targets; fixed = go s.label refl g.fixed }
    where
      go : (o : Option (List ℕ)) → s.label ≡ o → IfSome s.fixed (λ address. (address < 512) × IsSome s.label) → s.fixed ≡ fixed_of (fixes_at p.statements 1) o
      go None f g = unlabelled s.label s.fixed f g
      go (Some label) f g = sym (address_here p.statements 1 i s label h.labels e f)

  fallback_resolves : (o : Option Statement) → IfSome o (IsFallback p)
      → AreResolved (on_lines begin p.statements) (fixes_at p.statements 1) (option_to_list (option_map (default_draft p.statements (1 + fix_count p)) o)) (option_to_list (option_map (on_line (1 + fix_count p)) o))
  fallback_resolves None g = tt
  fallback_resolves (Some s) g = (record { label = g.label; line = refl; part = refl; next = leads_there p.statements begin s.next g.targets; fixed = subst (IsFixedBy (fixes_at p.statements 1) None) (sym g.fixed) (fixed_is (fixes_at p.statements 1) None) }, tt)

  makes_it : IsProgramOf p.machine (content_of p) (relined p)
  makes_it = record {
    machine_is = refl;
    statements_are =
        subst (λ fs. AreResolved (on_lines begin p.statements) fs (statements (content_of p)) (on_lines begin p.statements)) (sym fixes_are)
        (subst (λ ds. AreResolved (on_lines begin p.statements) (fixes_at p.statements 1) ds (on_lines begin p.statements)) (sym statements_are)
        (all_resolve p.statements begin (fixes_at p.statements 1) p.statements begin (each_at (IsBound p.statements begin (fixes_at p.statements 1)) p.statements bound)));
    fallback_is =
        subst (λ fs. AreResolved (on_lines begin p.statements) fs (fallbacks (content_of p)) (option_to_list (option_map (on_line (1 + fix_count p)) p.fallback))) (sym fixes_are)
        (subst (λ ds. AreResolved (on_lines begin p.statements) (fixes_at p.statements 1) ds (option_to_list (option_map (on_line (1 + fix_count p)) p.fallback))) (sym fallbacks_are)
        (fallback_resolves p.fallback h.fallback));
    fixes_known =
        subst (λ fs. list_all (λ f. has_label (statements (content_of p)) f.label) fs ≡ true) (sym fixes_are)
        (subst (λ ds. list_all (λ f. has_label ds f.label) (fixes_at p.statements 1) ≡ true) (sym statements_are)
        (known_fixes (drafts p.statements begin p.statements) p.statements 1 (λ i s label e f. has_draft p.statements p.statements begin i s label e f)));
    whole = program_lined p begin (1 + fix_count p) h;
  }

  -- the canonical text of a program spells it, on its own lines
  pub text_spells : LinesSpell → SpellsProgram p.machine (canonical_text p) (relined p)
  text_spells laws = record {
    content = content_of p;
    say = subst (λ ls. SayAll (grammar p.machine) ls (content_of p)) (sym (contents_text (canonical_lines p) (lines_plain laws p h))) (lines_say laws p h);
    fit = is_fine;
    program = makes_it;
  }
