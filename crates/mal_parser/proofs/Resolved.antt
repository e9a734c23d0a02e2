-- What the labels of a sound source are resolved to is a program.
use Rattle.mal_parser.proofs.Common.{◌≡◌, ℕ, zero, suc, ◌+◌, ◌-◌, ◌<◌, Bool, true, false, List, [], ◌∷◌, Option, Some, None, length, refl, sym, ap}
use Rattle.mal_parser.proofs.Common.{subst, ◌∙◌, arith, inl, inr, cond, not, map, find, option_map, option_and_then, unwrap_or, slice_get, ◌||◌, IfSome}
use Rattle.mal_parser.proofs.Common.{IsSome, All, is_called, is_some, is_taken, some_place, cases_lt, and_parts, not-false, or_right, cons_option, filter_map, bytes_eq}
use Rattle.mal_parser.proofs.Common.{length-map, slice_get-map, slice_get_within, get_or_from_slice_get}
use Rattle.mal_parser.proofs.Common.{bytes_eq-Decides, All-head, All-tail, Machine, Next, Draft, Fix, Statement}
use Rattle.mal_line.specs.declared.next.Next.TheVariants as nexts
use Rattle.mal_parser.specs.Prelude.{own_label, AreDistinct, has_label, is_among, falls, address_at, earlier, falling, first_falling, first_unknown, fixed_of, IsDraft, IsSound, knows, main1, resolved_next, number_of, program_with, resolved, Sketch, target_number, unknown_draft, unknown_fix, unknown_in, HasTargets, IsFallback, IsLabelled, IsMalProgram, IsStatement, label_at}

-- ---- places of lists

pub same_text : (a b : List ℕ) → bytes_eq a b ≡ true → a ≡ b
same_text a b h = (bytes_eq-Decides a b).0 h

pub text_same : (a : List ℕ) → bytes_eq a a ≡ true
text_same a = (bytes_eq-Decides a a).1 refl

pub found_later : {A : Type 0} (w : Bool) (y : A) (o : Option A) → cond w (Some y) o ≡ None → (w ≡ false) × (o ≡ None)
found_later true y o h = absurd (cc)
found_later false y o h = (refl, h)

pub find_none : {A : Type 0} (p : A → Bool) (xs : List A) (i : ℕ) (x : A) → find p xs ≡ None → slice_get xs i ≡ Some x → p x ≡ false
find_none p [] i x h g = absurd (cc)
find_none p (y ∷ ys) zero x h g = let k : y ≡ x = cc in subst (λ z. p z ≡ false) k (found_later (p y) y (find p ys) h).0
find_none p (y ∷ ys) (suc i) x h g = find_none p ys i x (found_later (p y) y (find p ys) h).1 g

-- ---- labels

-- a label that a statement has is at a place
pub any_place : (ds : List Draft) (label : List ℕ) → has_label ds label ≡ true → (i : ℕ) × (number_of ds label ≡ Some i)
any_place ds label h = go (number_of ds label) (some_place own_label ds label ∙ h)
  where
    go : (o : Option ℕ) → is_some o ≡ true → (i : ℕ) × (o ≡ Some i)
    go None e = absurd (cc)
    go (Some i) e = (i, refl)

pub at_place : (ds : List Draft) (label : List ℕ) (i : ℕ) → number_of ds label ≡ Some i → (d : Draft) × (slice_get ds i ≡ Some d) × (is_called label d.label ≡ true)
at_place [] label i h = absurd (cc)
at_place (x ∷ ds) label i h = go (is_called label x.label) refl (number_of ds label) (at_place ds label) h
  where
    go : (b : Bool) → is_called label x.label ≡ b → (o : Option ℕ) → ((j : ℕ) → o ≡ Some j → (d : Draft) × (slice_get ds j ≡ Some d) × (is_called label d.label ≡ true))
        → cond b (Some 0) (option_map (λ j. j + 1) o) ≡ Some i → (d : Draft) × (slice_get (x ∷ ds) i ≡ Some d) × (is_called label d.label ≡ true)
    go true e o rec h = let k : 0 ≡ i = cc in (x, subst (λ i. slice_get (x ∷ ds) i ≡ Some x) k refl, e)
    go false e None rec h = absurd (cc)
    go false e (Some j) rec h =
        let k : j + 1 ≡ i = cc in
        let s : suc j ≡ i = omega (arith, k) in
        let r = rec j refl in
        (r.0, subst (λ i. slice_get (x ∷ ds) i ≡ Some r.0) s r.1, r.2)

pub label_is : (label : List ℕ) (o : Option (List ℕ)) → is_called label o ≡ true → o ≡ Some label
label_is label (Some own) h = ap Some (same_text own label h)
label_is label None h = absurd (cc)

module _ {A : Type 0} (name_of : A → Option (List ℕ)) where
  pub among : (xs : List A) (label : List ℕ) → is_taken name_of xs label ≡ is_among label (filter_map name_of xs)
  among [] label = refl
  among (x ∷ xs) label = go (name_of x) (among xs label)
    where
      go : (o : Option (List ℕ)) → is_taken name_of xs label ≡ is_among label (filter_map name_of xs)
          → (is_called label o || is_taken name_of xs label) ≡ is_among label (cons_option o (filter_map name_of xs))
      go None h = h
      go (Some own) h = ap (λ b. bytes_eq own label || b) h

  pub among_at : (xs : List A) (i : ℕ) (x : A) (label : List ℕ) → slice_get xs i ≡ Some x → name_of x ≡ Some label → is_among label (filter_map name_of xs) ≡ true
  among_at [] i x label g e = absurd (cc)
  among_at (y ∷ xs) zero x label g e =
      let k : y ≡ x = cc in
      let own : name_of y ≡ Some label = ap name_of k ∙ e in
      let t = text_same label in
      rw (own, t) refl
  among_at (y ∷ xs) (suc i) x label g e = go (name_of y) (among_at xs i x label g e)
    where
      go : (o : Option (List ℕ)) → is_among label (filter_map name_of xs) ≡ true → is_among label (cons_option o (filter_map name_of xs)) ≡ true
      go None h = h
      go (Some own) h = or_right (bytes_eq own label) (is_among label (filter_map name_of xs)) h

  distinct_tail : (o : Option (List ℕ)) (ls : List (List ℕ)) → AreDistinct (cons_option o ls) → AreDistinct ls
  distinct_tail None ls h = h
  distinct_tail (Some l) ls h = h.1

  distinct_head : (o : Option (List ℕ)) (l : List ℕ) (ls : List (List ℕ)) → o ≡ Some l → AreDistinct (cons_option o ls) → is_among l ls ≡ true → ⊥
  distinct_head None l ls e h a = cc
  distinct_head (Some m) l ls e h a = let k : m ≡ l = cc in let f : is_among l ls ≡ false = subst (λ m. is_among m ls ≡ false) k h.0 in cc

  -- one item has a label where no label stands twice
  pub one_place : (xs : List A) (i j : ℕ) (x y : A) (label : List ℕ) → AreDistinct (filter_map name_of xs) → slice_get xs i ≡ Some x → name_of x ≡ Some label
      → slice_get xs j ≡ Some y → name_of y ≡ Some label → i ≡ j
  one_place [] i j x y label h gi li gj lj = absurd (cc)
  one_place (z ∷ xs) zero zero x y label h gi li gj lj = refl
  one_place (z ∷ xs) zero (suc j) x y label h gi li gj lj =
      let k : z ≡ x = cc in
      absurd (distinct_head (name_of z) label (filter_map name_of xs) (ap name_of k ∙ li) h (among_at xs j y label gj lj))
  one_place (z ∷ xs) (suc i) zero x y label h gi li gj lj =
      let k : z ≡ y = cc in
      absurd (distinct_head (name_of z) label (filter_map name_of xs) (ap name_of k ∙ lj) h (among_at xs i x label gi li))
  one_place (z ∷ xs) (suc i) (suc j) x y label h gi li gj lj = ap suc (one_place xs i j x y label (distinct_tail (name_of z) (filter_map name_of xs) h) gi li gj lj)

unfoldable pub draft_label : List Draft → ℕ → Option (List ℕ)
draft_label ds i = option_and_then (λ d. d.label) (slice_get ds i)

-- a statement keeps its draft's label
label_kept : (ds : List Draft) (fs : List Fix) (all : List Draft) (i : ℕ) → label_at (map (resolved all fs) ds) i ≡ draft_label ds i
unfolding draft_label
label_kept ds fs all i = ap (option_and_then (λ (t : Statement). t.label)) (slice_get-map (resolved all fs) ds i) ∙ go (slice_get ds i)
  where
    go : (o : Option Draft) → option_and_then (λ (t : Statement). t.label) (option_map (resolved all fs) o) ≡ option_and_then (λ d. d.label) o
    go None = refl
    go (Some d) = refl

-- the draft of a statement
draft_of : (ds : List Draft) (fs : List Fix) (all : List Draft) (i : ℕ) (t : Statement) → slice_get (map (resolved all fs) ds) i ≡ Some t → (d : Draft) × (slice_get ds i ≡ Some d) × (resolved all fs d ≡ t)
draft_of ds fs all i t h = go (slice_get ds i) refl (sym (slice_get-map (resolved all fs) ds i) ∙ h)
  where
    go : (o : Option Draft) → slice_get ds i ≡ o → option_map (resolved all fs) o ≡ Some t → (d : Draft) × (slice_get ds i ≡ Some d) × (resolved all fs d ≡ t)
    go None e h = absurd (cc)
    go (Some d) e h = (d, e, cc)

pub labelled_at : (ds : List Draft) (i : ℕ) (label : List ℕ) → draft_label ds i ≡ Some label → (d : Draft) × (slice_get ds i ≡ Some d) × (d.label ≡ Some label)
unfolding draft_label
labelled_at ds i label h = go (slice_get ds i) refl h
  where
    go : (o : Option Draft) → slice_get ds i ≡ o → option_and_then (λ d. d.label) o ≡ Some label → (d : Draft) × (slice_get ds i ≡ Some d) × (d.label ≡ Some label)
    go None e h = absurd (cc)
    go (Some d) e h = (d, e, h)

-- a known label is that of its target
pub target_label : (ds : List Draft) (fs : List Fix) (label : List ℕ) → has_label ds label ≡ true → label_at (map (resolved ds fs) ds) (target_number ds label) ≡ Some label
unfolding draft_label
target_label ds fs label h =
    let p = any_place ds label h in
    let q = at_place ds label p.0 p.1 in
    let e : target_number ds label ≡ p.0 = ap (λ o. unwrap_or o 0) p.1 in
    ap (label_at (map (resolved ds fs) ds)) e ∙ (label_kept ds fs ds p.0 ∙ (ap (option_and_then (λ (d : Draft). d.label)) q.1 ∙ label_is label q.0.label q.2))

is_target : (ds : List Draft) (fs : List Fix) (label : List ℕ) → has_label ds label ≡ true → IsLabelled (map (resolved ds fs) ds) (target_number ds label)
is_target ds fs label h = let k = target_label ds fs label h in rw k refl

has_targets : (ds : List Draft) (fs : List Fix) (next : Next (List ℕ)) → knows ds next ≡ true → HasTargets (map (resolved ds fs) ds) (resolved_next ds next)
has_targets ds fs nexts.Following h = tt
has_targets ds fs (nexts.Goto label) h = is_target ds fs label h
has_targets ds fs (nexts.Dispatch high) h = tt
has_targets ds fs (nexts.Branch test high low) h = let p = and_parts (has_label ds high) (has_label ds low) h in (is_target ds fs high p.0, is_target ds fs low p.1)

-- ---- what no refusal says

pub neither : (a b : Option ℕ) → earlier a b ≡ None → (a ≡ None) × (b ≡ None)
neither None b h = (refl, h)
neither (Some a) None h = absurd (cc)
neither (Some a) (Some b) h = absurd (cc)

pub no_line : {A : Type 0} (line : A → ℕ) (o : Option A) → option_map line o ≡ None → o ≡ None
no_line line None h = refl
no_line line (Some x) h = absurd (cc)

known : (s : Sketch) → first_unknown s ≡ None → (i : ℕ) (d : Draft) → slice_get s.statements i ≡ Some d → knows s.statements d.parts.next ≡ true
known s h i d g =
    let p = neither (unknown_draft s.statements s.statements) (earlier (unknown_fix s.statements s.fixes) (unknown_in s.statements s.fallback)) h in
    not-false (knows s.statements d.parts.next) (find_none (λ d. not (knows s.statements d.parts.next)) s.statements i d (no_line (λ (d : Draft). d.line) (find (λ d. not (knows s.statements d.parts.next)) s.statements) p.0) g)

pub known_one : (ds : List Draft) (d : Draft) → unknown_in ds (Some d) ≡ None → knows ds d.parts.next ≡ true
known_one ds d h = go (knows ds d.parts.next) h
  where
    go : (b : Bool) → cond b None (Some d.line) ≡ None → b ≡ true
    go true h = refl
    go false h = absurd (cc)

known_fallback : (s : Sketch) (d : Draft) → first_unknown s ≡ None → s.fallback ≡ Some d → knows s.statements d.parts.next ≡ true
known_fallback s d h e =
    let p = neither (unknown_draft s.statements s.statements) (earlier (unknown_fix s.statements s.fixes) (unknown_in s.statements s.fallback)) h in
    let q = neither (unknown_fix s.statements s.fixes) (unknown_in s.statements s.fallback) p.1 in
    known_one s.statements d (ap (unknown_in s.statements) (sym e) ∙ q.1)

pub not_falling : (d : Draft) → falling (Some d) ≡ None → falls d.parts.next ≡ false
not_falling d h = go (falls d.parts.next) h
  where
    go : (b : Bool) → cond b (Some d.line) None ≡ None → b ≡ false
    go true h = absurd (cc)
    go false h = refl

falls_of : (ds : List Draft) (next : Next (List ℕ)) → resolved_next ds next ≡ nexts.Following → falls next ≡ true
falls_of ds nexts.Following h = refl
falls_of ds _ h = absurd (cc)

-- ---- the program

draft_at : (P : Draft → Type 0) (ds : List Draft) (i : ℕ) (d : Draft) → All P ds → slice_get ds i ≡ Some d → P d
draft_at P ds i d all g = subst P (get_or_from_slice_get ds i d d g) (all i d (slice_get_within ds i d g))

fixed_fits : (fs : List Fix) (o : Option (List ℕ)) → All (λ f. f.address < 512) fs → IfSome (fixed_of fs o) (λ address. (address < 512) × IsSome o)
fixed_fits fs None all = tt
fixed_fits fs (Some label) all = go fs all
  where
    go : (fs : List Fix) → All (λ f. f.address < 512) fs → IfSome (address_at fs label) (λ address. (address < 512) × IsSome (Some label))
    go [] all = tt
    go (f ∷ fs) all = step (bytes_eq f.label label) (go fs (All-tail (λ (g : Fix). g.address < 512) f fs all))
      where
        step : (b : Bool) → IfSome (address_at fs label) (λ address. (address < 512) × IsSome (Some label)) → IfSome (option_map (λ (f : Fix). f.address) (cond b (Some f) (find (λ f. bytes_eq f.label label) fs))) (λ address. (address < 512) × IsSome (Some label))
        step true rec = (All-head (λ (g : Fix). g.address < 512) f fs all, refl)
        step false rec = rec

module _ (s : Sketch) (entry : ℕ) (sound : IsSound s) (no_unknown : first_unknown s ≡ None) (no_falling : first_falling s ≡ None) (has_entry : number_of s.statements main1 ≡ Some entry) where
  followed : (i : ℕ) (d : Draft) → slice_get s.statements i ≡ Some d → falls d.parts.next ≡ true → i + 1 < length s.statements
  followed i d g f =
      let lt = slice_get_within s.statements i d g in
      elim (cases_lt (i + 1) (length s.statements)) [
        | inl more ↦ more
        | inr end ↦
            let e : length s.statements - 1 ≡ i = omega (arith, lt, end) in
            let p = neither (falling (slice_get s.statements (length s.statements - 1))) (falling s.fallback) no_falling in
            let q : falling (Some d) ≡ None = ap falling (sym g) ∙ (ap (λ n. falling (slice_get s.statements n)) (sym e) ∙ p.0) in
            let r = not_falling d q in
            absurd (cc)
      ]

  statement_is : (i : ℕ) (t : Statement) → slice_get (map (resolved s.statements s.fixes) s.statements) i ≡ Some t → IsStatement (program_with s entry) i t
  statement_is i t h =
      let q = draft_of s.statements s.fixes s.statements i t h in
      let d = q.0 in
      let k : IsDraft s.machine q.0 = draft_at (IsDraft s.machine) s.statements i q.0 sound.drafts q.1 in
      let is : IsStatement (program_with s entry) i (resolved s.statements s.fixes q.0) = record {
        part = k.part;
        targets = has_targets s.statements s.fixes q.0.parts.next (known s no_unknown i q.0 q.1);
        followed = λ e. rw (length-map s.statements (resolved s.statements s.fixes)) (followed i q.0 q.1 (falls_of s.statements q.0.parts.next e));
        label = k.label;
        fixed = fixed_fits s.fixes q.0.label sound.addresses;
      } in
      subst (IsStatement (program_with s entry) i) q.2 is

  fallback_is : (o : Option Draft) → s.fallback ≡ o → IfSome (option_map (resolved s.statements s.fixes) o) (IsFallback (program_with s entry))
  fallback_is None e = tt
  fallback_is (Some d) e =
      let k : IsDraft s.machine d × (d.label ≡ None) = subst (λ o. IfSome o (λ d. IsDraft s.machine d × (d.label ≡ None))) e sound.fallback in
      let p = neither (falling (slice_get s.statements (length s.statements - 1))) (falling s.fallback) no_falling in
      let f = not_falling d (ap falling (sym e) ∙ p.1) in
      record {
        part = k.0.part;
        targets = has_targets s.statements s.fixes d.parts.next (known_fallback s d no_unknown e);
        leads = λ h. let z = falls_of s.statements d.parts.next h in cc;
        label = k.1;
        fixed = ap (fixed_of s.fixes) k.1;
      }

  pub program_is : IsMalProgram (program_with s entry)
  unfolding draft_label
  program_is =
      let q = at_place s.statements main1 entry has_entry in
      let lt = slice_get_within s.statements entry q.0 q.1 in
      let l = length-map s.statements (resolved s.statements s.fixes) in
      record {
        some = rw l (omega (arith, lt));
        few = rw l sound.few;
        statements = statement_is;
        labels = λ i j label hi hj.
            let a = labelled_at s.statements i label (sym (label_kept s.statements s.fixes s.statements i) ∙ hi) in
            let b = labelled_at s.statements j label (sym (label_kept s.statements s.fixes s.statements j) ∙ hj) in
            one_place own_label s.statements i j a.0 b.0 label sound.labels a.1 a.2 b.1 b.2;
        fallback = fallback_is s.fallback refl;
        entry = label_kept s.statements s.fixes s.statements entry ∙ (ap (option_and_then (λ (d : Draft). d.label)) q.1 ∙ label_is main1 q.0.label q.2);
      }

pub program_made : (s : Sketch) (entry : ℕ) (machine : Machine) (ss : List Statement) (fallback : Option Statement) → IsMalProgram (program_with s entry)
    → machine ≡ s.machine → ss ≡ map (resolved s.statements s.fixes) s.statements → fallback ≡ option_map (resolved s.statements s.fixes) s.fallback
    → IsMalProgram (record { machine = machine; statements = ss; fallback = fallback; entry = entry })
program_made s entry machine ss fallback p a b c = rw (a, b, c) p
