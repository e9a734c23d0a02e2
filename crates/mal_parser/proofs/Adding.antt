-- The lines of a source say something together where none is refused after the others.
use Rattle.mal_parser.proofs.Common.{◌≡◌, ℕ, suc, ◌+◌, ◌≤◌, Bool, true, false, List, [], ◌∷◌, ◌++◌, Option, Some, None, length, refl, sym, ap, subst, ◌∙◌}
use Rattle.mal_parser.proofs.Common.{arith, inl, inr, cond, append_assoc, length-append, Result, Ok, Err, nat_le, ◌||◌, ◌⊎◌, is_some, option_map}
use Rattle.mal_parser.proofs.Common.{option_to_list, IsSome, cons_option, bytes_eq, append-nil, filter_map-append, nat_tests, list_any-append, or_from, or_parts}
use Rattle.mal_parser.proofs.Common.{Makes, option_and_then, place_of, some_place, Machine, Content, Parts, Draft, Fix}
use Rattle.mal_parser.proofs.Common.{◌<◌}
use Rattle.mal_parser.specs.Reading.{add_fix, add_statement}
use Rattle.mal_line.specs.declared.content.Content.TheVariants as said
use Rattle.mal_parser.specs.declared.error.MalError.TheVariants as errors
use Rattle.mal_parser.specs.Prelude.{fixed_label, own_label, address_of, AreDistinct, fix_labels, has_fix, has_name, is_among, labels_of, AreAddresses, fallbacks_from, fixes_from, IsFine, statements_from, add_content, add_fix, empty, first, parser, Sketch, sketch_of}
use Rattle.mal_parser.proofs.Resolved.{among, same_text, text_same}

-- ---- labels that stand again

pub name_known : (ds : List Draft) (own : Option (List ℕ)) → is_some (option_and_then (place_of own_label ds) own) ≡ has_name ds own
name_known ds None = refl
name_known ds (Some label) = some_place own_label ds label

pub fix_known : (fs : List Fix) (label : List ℕ) → is_some (place_of fixed_label fs label) ≡ has_fix fs label
fix_known = some_place fixed_label

-- ---- what the lists of statements and of `.label` lines keep is what the lines add

module _ (k : ℕ) (s : Sketch) (label : Option (List ℕ)) (parts : Parts) where
  pub statement_kept : option_and_then (place_of own_label s.statements) label ≡ None → length s.statements < 512
      → add_statement k s label parts ≡ Ok (record s { statements = s.statements ++ (record { label = label; line = k; parts = parts }) ∷ [] })
  statement_kept free room =
      let own : has_name s.statements label ≡ false = sym (name_known s.statements label) ∙ ap is_some free in
      let few : nat_le 512 (length s.statements) ≡ false = grind (arith, nat_tests) in
      rw (own, few) refl

  pub statement_again : (place : ℕ) → option_and_then (place_of own_label s.statements) label ≡ Some place
      → add_statement k s label parts ≡ Err (errors.DuplicateLabel k)
  statement_again place taken =
      let own : has_name s.statements label ≡ true = sym (name_known s.statements label) ∙ ap is_some taken in
      rw own refl

  pub statement_full : option_and_then (place_of own_label s.statements) label ≡ None → 512 ≤ length s.statements
      → add_statement k s label parts ≡ Err (errors.TooMany k)
  statement_full free full =
      let own : has_name s.statements label ≡ false = sym (name_known s.statements label) ∙ ap is_some free in
      let many : nat_le 512 (length s.statements) ≡ true = grind (arith, nat_tests) in
      rw (own, many) refl

module _ (k : ℕ) (s : Sketch) (label : List ℕ) (number : Option ℕ) (address : ℕ) (is : number ≡ Some address) where
  pub fix_kept : place_of fixed_label s.fixes label ≡ None
      → add_fix k s label number ≡ Ok (record s { fixes = s.fixes ++ (record { label = label; line = k; address = address }) ∷ [] })
  fix_kept free = let own : has_fix s.fixes label ≡ false = sym (fix_known s.fixes label) ∙ ap is_some free in rw (is, own) refl

  pub fix_again : (place : ℕ) → place_of fixed_label s.fixes label ≡ Some place → add_fix k s label number ≡ Err (errors.BadFix k)
  fix_again place taken = let own : has_fix s.fixes label ≡ true = sym (fix_known s.fixes label) ∙ ap is_some taken in rw (is, own) refl

-- ---- adding what the lines say

pub picked : {A E : Type 0} (b : Bool) (x y z : Result A E) → cond b x y ≡ z → ((b ≡ true) × (x ≡ z)) ⊎ ((b ≡ false) × (y ≡ z))
picked true x y z h = inl (refl, h)
picked false x y z h = inr (refl, h)

unfoldable pub with_fix : ℕ → Sketch → List ℕ → ℕ → Sketch
with_fix k s label address = record s { fixes = s.fixes ++ (record { label = label; line = k; address = address }) ∷ [] }

unfoldable pub with_fallback : ℕ → Sketch → Parts → Sketch
with_fallback k s parts = record s { fallback = Some (record { label = None; line = k; parts = parts }) }

unfoldable pub with_statement : ℕ → Sketch → Option (List ℕ) → Parts → Sketch
with_statement k s label parts = record s { statements = s.statements ++ (record { label = label; line = k; parts = parts }) ∷ [] }

-- when a line adds what it says
pub AddsTo : ℕ → Sketch → Content → Sketch → Type 0
AddsTo k s said.Nothing u = s ≡ u
AddsTo k s (said.Fix label number) u = (address : ℕ) × (address_of number ≡ Some address) × (has_fix s.fixes label ≡ false) × (with_fix k s label address ≡ u)
AddsTo k s (said.Fallback parts) u = (is_some s.fallback ≡ false) × (with_fallback k s parts ≡ u)
AddsTo k s (said.Statement label parts) u = (has_name s.statements label ≡ false) × (nat_le 512 (length s.statements) ≡ false) × (with_statement k s label parts ≡ u)

content_adds : (k : ℕ) (s : Sketch) (c : Content) (u : Sketch) → add_content k s c ≡ Ok u → AddsTo k s c u
unfolding AddsTo with_fix with_fallback with_statement
content_adds k s said.Nothing u h = cc
content_adds k s (said.Fix label number) u h = go (address_of number) refl h
  where
    go : (o : Option ℕ) → address_of number ≡ o → add_fix k s label o ≡ Ok u → AddsTo k s (said.Fix label number) u
    go None e h = absurd (cc)
    go (Some a) e h = elim (picked (has_fix s.fixes label) (Err (errors.BadFix k)) (Ok (with_fix k s label a)) (Ok u) h) [
      | inl w ↦ absurd (let z = w.1 in cc)
      | inr w ↦ let z = w.1 in (a, e, w.0, cc)
    ]
content_adds k s (said.Fallback parts) u h = elim (picked (is_some s.fallback) (Err (errors.BadFix k)) (Ok (with_fallback k s parts)) (Ok u) h) [
  | inl w ↦ absurd (let z = w.1 in cc)
  | inr w ↦ let z = w.1 in (w.0, cc)
]
content_adds k s (said.Statement label parts) u h = elim (picked (has_name s.statements label) (Err (errors.DuplicateLabel k)) (cond (nat_le 512 (length s.statements)) (Err (errors.TooMany k)) (Ok (with_statement k s label parts))) (Ok u) h) [
  | inl w ↦ absurd (let z = w.1 in cc)
  | inr w ↦ elim (picked (nat_le 512 (length s.statements)) (Err (errors.TooMany k)) (Ok (with_statement k s label parts)) (Ok u) w.1) [
    | inl x ↦ absurd (let z = x.1 in cc)
    | inr x ↦ let z = x.1 in (w.0, x.0, cc)
  ]
]

pub adds_content : (k : ℕ) (s : Sketch) (c : Content) (u : Sketch) → AddsTo k s c u → add_content k s c ≡ Ok u
unfolding AddsTo with_fix with_fallback with_statement
adds_content k s said.Nothing u e = ap Ok e
adds_content k s (said.Fix label number) u (a, e, f, g) = ap (add_fix k s label) e ∙ (ap (λ b. cond b (Err (errors.BadFix k)) (Ok (with_fix k s label a))) f ∙ ap Ok g)
adds_content k s (said.Fallback parts) u (f, g) = ap (λ b. cond b (Err (errors.BadFix k)) (Ok (with_fallback k s parts))) f ∙ ap Ok g
adds_content k s (said.Statement label parts) u (f, n, g) =
    ap (λ b. cond b (Err (errors.DuplicateLabel k)) (cond (nat_le 512 (length s.statements)) (Err (errors.TooMany k)) (Ok (with_statement k s label parts)))) f
    ∙ (ap (λ b. cond b (Err (errors.TooMany k)) (Ok (with_statement k s label parts))) n ∙ ap Ok g)

-- ---- no name stands twice

differ : (a b : List ℕ) → bytes_eq a b ≡ false → bytes_eq b a ≡ false
differ a b h = go (bytes_eq b a) refl
  where
    go : (w : Bool) → bytes_eq b a ≡ w → w ≡ false
    go true e = absurd (let k : b ≡ a = same_text b a e in let z : bytes_eq a b ≡ true = rw k (text_same a) in cc)
    go false e = refl

distinct_push : (xs : List (List ℕ)) (y : List ℕ) → AreDistinct xs → is_among y xs ≡ false → AreDistinct (xs ++ y ∷ [])
distinct_push [] y h n = (refl, tt)
distinct_push (x ∷ xs) y h n =
    let p = or_parts (bytes_eq x y) (is_among y xs) n in
    let e : is_among x (xs ++ y ∷ []) ≡ false = list_any-append (λ o. bytes_eq o x) xs (y ∷ []) ∙ or_from (is_among x xs) (bytes_eq y x || false) h.0 (or_from (bytes_eq y x) false (differ x y p.0) refl) in
    (e, distinct_push xs y h.1 p.1)

distinct_middle : (xs ys : List (List ℕ)) (y : List ℕ) → AreDistinct (xs ++ y ∷ ys) → is_among y xs ≡ false
distinct_middle [] ys y h = refl
distinct_middle (x ∷ xs) ys y h =
    let a : (is_among x xs || (bytes_eq y x || is_among x ys)) ≡ false = sym (list_any-append (λ o. bytes_eq o x) xs (y ∷ ys)) ∙ h.0 in
    let p = or_parts (is_among x xs) (bytes_eq y x || is_among x ys) a in
    let q = or_parts (bytes_eq y x) (is_among x ys) p.1 in
    or_from (bytes_eq x y) (is_among y xs) (differ y x q.0) (distinct_middle xs ys y h.1)

-- ---- lines that are fine after others

pub record IsFineFrom (s : Sketch) (k : ℕ) (cs : List Content) : Type 0 where
  pub labels : AreDistinct (labels_of (s.statements ++ statements_from k cs))
  pub few : length (s.statements ++ statements_from k cs) ≤ 512
  pub addresses : AreAddresses cs
  pub fixed : AreDistinct (fix_labels (s.fixes ++ fixes_from k cs))
  pub one_default : length (option_to_list s.fallback ++ fallbacks_from k cs) ≤ 1

pub joined : Sketch → ℕ → List Content → Sketch
joined s k cs = record { machine = s.machine; statements = s.statements ++ statements_from k cs; fixes = s.fixes ++ fixes_from k cs; fallback = first (option_to_list s.fallback ++ fallbacks_from k cs) }

first_option : {A : Type 0} (o : Option A) → first (option_to_list o ++ []) ≡ o
first_option None = refl
first_option (Some a) = refl

joined_none : (s : Sketch) (k : ℕ) → joined s k [] ≡ s
unfolding joined
joined_none s k = one (s.statements ++ []) s.statements (s.fixes ++ []) s.fixes (first (option_to_list s.fallback ++ [])) s.fallback (append-nil s.statements) (append-nil s.fixes) (first_option s.fallback)
  where
    one : (a a2 : List Draft) (b b2 : List Fix) (c c2 : Option Draft) → a ≡ a2 → b ≡ b2 → c ≡ c2
        → ◌≡◌ {A = Sketch} (record { machine = s.machine; statements = a; fixes = b; fallback = c }) (record { machine = s.machine; statements = a2; fixes = b2; fallback = c2 })
    one a a2 b b2 c c2 p q r = rw (p, q, r) refl

-- one line, and those after it
record Steps (k : ℕ) (s : Sketch) (c : Content) (u : Sketch) (cs : List Content) : Type 0 where
  machine : u.machine ≡ s.machine
  statements : u.statements ++ statements_from (k + 1) cs ≡ s.statements ++ statements_from k (c ∷ cs)
  fixes : u.fixes ++ fixes_from (k + 1) cs ≡ s.fixes ++ fixes_from k (c ∷ cs)
  fallback : option_to_list u.fallback ++ fallbacks_from (k + 1) cs ≡ option_to_list s.fallback ++ fallbacks_from k (c ∷ cs)

none_list : {A : Type 0} (o : Option A) → is_some o ≡ false → option_to_list o ≡ []
none_list None h = refl
none_list (Some a) h = absurd (cc)

steps : (k : ℕ) (s : Sketch) (c : Content) (u : Sketch) (cs : List Content) → AddsTo k s c u → Steps k s c u cs
unfolding AddsTo with_fix with_fallback with_statement
steps k s said.Nothing u cs e = subst (λ v. Steps k s said.Nothing v cs) e (record { machine = refl; statements = refl; fixes = refl; fallback = refl })
steps k s (said.Fix label number) u cs (a, e, f, g) =
    let new : Fix = record { label = label; line = k; address = a } in
    subst (λ v. Steps k s (said.Fix label number) v cs) g (record {
      machine = refl;
      statements = refl;
      fixes = append_assoc s.fixes (new ∷ []) (fixes_from (k + 1) cs) ∙ ap (λ o. s.fixes ++ cons_option (option_map {U = Fix} (λ address. record { label = label; line = k; address = address }) o) (fixes_from (k + 1) cs)) (sym e);
      fallback = refl;
    })
steps k s (said.Fallback parts) u cs (f, g) =
    let new : Draft = record { label = None; line = k; parts = parts } in
    subst (λ v. Steps k s (said.Fallback parts) v cs) g (record {
      machine = refl;
      statements = refl;
      fixes = refl;
      fallback = ap (λ ds. ds ++ (new ∷ fallbacks_from (k + 1) cs)) (sym (none_list s.fallback f));
    })
steps k s (said.Statement label parts) u cs (f, n, g) =
    let new : Draft = record { label = label; line = k; parts = parts } in
    subst (λ v. Steps k s (said.Statement label parts) v cs) g (record {
      machine = refl;
      statements = append_assoc s.statements (new ∷ []) (statements_from (k + 1) cs);
      fixes = refl;
      fallback = refl;
    })

join_step : (k : ℕ) (s : Sketch) (c : Content) (u : Sketch) (cs : List Content) → Steps k s c u cs → joined u (k + 1) cs ≡ joined s k (c ∷ cs)
unfolding joined
join_step k s c u cs t =
    one u.machine s.machine (u.statements ++ statements_from (k + 1) cs) (s.statements ++ statements_from k (c ∷ cs)) (u.fixes ++ fixes_from (k + 1) cs) (s.fixes ++ fixes_from k (c ∷ cs))
    (option_to_list u.fallback ++ fallbacks_from (k + 1) cs) (option_to_list s.fallback ++ fallbacks_from k (c ∷ cs)) t.machine t.statements t.fixes t.fallback
  where
    one : (m m2 : Machine) (a a2 : List Draft) (b b2 : List Fix) (c c2 : List Draft) → m ≡ m2 → a ≡ a2 → b ≡ b2 → c ≡ c2
        → ◌≡◌ {A = Sketch} (record { machine = m; statements = a; fixes = b; fallback = first c }) (record { machine = m2; statements = a2; fixes = b2; fallback = first c2 })
    one m m2 a a2 b b2 c c2 o p q r = rw (o, p, q, r) refl

address_adds : (k : ℕ) (s : Sketch) (c : Content) (u : Sketch) (cs : List Content) → AddsTo k s c u → AreAddresses cs → AreAddresses (c ∷ cs)
unfolding AddsTo
address_adds k s said.Nothing u cs a h = h
address_adds k s (said.Fix label number) u cs (a, e, f, g) h = (ap is_some e, h)
address_adds k s (said.Fallback parts) u cs a h = h
address_adds k s (said.Statement label parts) u cs a h = h

address_after : (c : Content) (cs : List Content) → AreAddresses (c ∷ cs) → AreAddresses cs
address_after (said.Fix label number) cs h = h.1
address_after _ cs h = h

back : (k : ℕ) (s : Sketch) (c : Content) (u : Sketch) (cs : List Content) → AddsTo k s c u → IsFineFrom u (k + 1) cs → IsFineFrom s k (c ∷ cs)
back k s c u cs a h =
    let t = steps k s c u cs a in
    record {
      labels = subst (λ ds. AreDistinct (labels_of ds)) t.statements h.labels;
      few = subst (λ ds. length ds ≤ 512) t.statements h.few;
      addresses = address_adds k s c u cs a h.addresses;
      fixed = subst (λ (fs : List Fix). AreDistinct (fix_labels fs)) t.fixes h.fixed;
      one_default = subst (λ ds. length ds ≤ 1) t.fallback h.one_default;
    }

forth : (k : ℕ) (s : Sketch) (c : Content) (u : Sketch) (cs : List Content) → AddsTo k s c u → IsFineFrom s k (c ∷ cs) → IsFineFrom u (k + 1) cs
forth k s c u cs a h =
    let t = steps k s c u cs a in
    record {
      labels = subst (λ ds. AreDistinct (labels_of ds)) (sym t.statements) h.labels;
      few = subst (λ ds. length ds ≤ 512) (sym t.statements) h.few;
      addresses = address_after c cs h.addresses;
      fixed = subst (λ (fs : List Fix). AreDistinct (fix_labels fs)) (sym t.fixes) h.fixed;
      one_default = subst (λ ds. length ds ≤ 1) (sym t.fallback) h.one_default;
    }

-- ---- lines that are added are fine

pub record IsFineAlone (s : Sketch) : Type 0 where
  pub labels : AreDistinct (labels_of s.statements)
  pub few : length s.statements ≤ 512
  pub fixed : AreDistinct (fix_labels s.fixes)

short_option : {A : Type 0} (o : Option A) → length (option_to_list o ++ []) ≤ 1
short_option None = omega arith
short_option (Some a) = omega arith

alone_fine : (s : Sketch) (k : ℕ) → IsFineAlone s → IsFineFrom s k []
alone_fine s k h = record {
  labels = subst (λ ds. AreDistinct (labels_of ds)) (sym (append-nil s.statements)) h.labels;
  few = subst (λ ds. length ds ≤ 512) (sym (append-nil s.statements)) h.few;
  addresses = tt;
  fixed = subst (λ (fs : List Fix). AreDistinct (fix_labels fs)) (sym (append-nil s.fixes)) h.fixed;
  one_default = short_option s.fallback;
}

room_left : (n : ℕ) → nat_le 512 n ≡ false → n + 1 ≤ 512
room_left n h = grind (arith, nat_tests)

one_more : (k : ℕ) (s : Sketch) (label : Option (List ℕ)) (d : Draft) → d.label ≡ label → IsFineAlone s → has_name s.statements label ≡ false → nat_le 512 (length s.statements) ≡ false
    → AreDistinct (labels_of (s.statements ++ d ∷ [])) × (length (s.statements ++ d ∷ []) ≤ 512)
one_more k s label d e h f n =
    (subst AreDistinct (sym (filter_map-append own_label s.statements (d ∷ []))) (subst (λ o. AreDistinct (labels_of s.statements ++ cons_option o [])) (sym e) (go label f)), let l = length-append s.statements (d ∷ []) in let r = room_left (length s.statements) n in omega (arith, l, r))
  where
    go : (o : Option (List ℕ)) → has_name s.statements o ≡ false → AreDistinct (labels_of s.statements ++ cons_option o [])
    go None f = subst AreDistinct (sym (append-nil (labels_of s.statements))) h.labels
    go (Some l) f = distinct_push (labels_of s.statements) l h.labels (sym (among own_label s.statements l) ∙ f)

grows : (k : ℕ) (s : Sketch) (c : Content) (u : Sketch) → IsFineAlone s → AddsTo k s c u → IsFineAlone u
unfolding AddsTo with_fix with_fallback with_statement
grows k s said.Nothing u h e = subst IsFineAlone e h
grows k s (said.Fix label number) u h (a, e, f, g) =
    let new : Fix = record { label = label; line = k; address = a } in
    subst IsFineAlone g (record {
      labels = h.labels;
      few = h.few;
      fixed = subst AreDistinct (sym (filter_map-append fixed_label s.fixes (new ∷ []))) (distinct_push (fix_labels s.fixes) label h.fixed (sym (among fixed_label s.fixes label) ∙ f));
    })
grows k s (said.Fallback parts) u h (f, g) = subst IsFineAlone g (record { labels = h.labels; few = h.few; fixed = h.fixed })
grows k s (said.Statement label parts) u h (f, n, g) =
    let m = one_more k s label (record { label = label; line = k; parts = parts }) refl h f n in
    subst IsFineAlone g (record { labels = m.0; few = m.1; fixed = h.fixed })

pub adds_fine : (cs : List Content) (k : ℕ) (s t : Sketch) → IsFineAlone s → Makes parser k s cs t → IsFineFrom s k cs × (joined s k cs ≡ t)
adds_fine [] k s t h e = (alone_fine s k h, joined_none s k ∙ e)
adds_fine (c ∷ cs) k s t h (u, at, e, more) =
    let add = content_adds k s c u e in
    let r = adds_fine cs (k + 1) u t (grows k s c u h add) more in
    (back k s c u cs add r.0, sym (join_step k s c u cs (steps k s c u cs add)) ∙ r.1)

-- ---- fine lines are added

not_full : (n m : ℕ) → n + suc m ≤ 512 → nat_le 512 n ≡ false
not_full n m h = grind (arith, nat_tests)

none_before : {A : Type 0} (o : Option A) (a : A) (xs : List A) → length (option_to_list o ++ a ∷ xs) ≤ 1 → is_some o ≡ false
none_before None a xs h = refl
none_before (Some b) a xs h = absurd (omega arith)

free_before : (ds es : List Draft) (d : Draft) (label : Option (List ℕ)) → d.label ≡ label → AreDistinct (labels_of (ds ++ d ∷ es)) → has_name ds label ≡ false
free_before ds es d label e h = go label (subst (λ o. AreDistinct (labels_of ds ++ cons_option o (labels_of es))) e (subst AreDistinct (filter_map-append own_label ds (d ∷ es)) h))
  where
    go : (o : Option (List ℕ)) → AreDistinct (labels_of ds ++ cons_option o (labels_of es)) → has_name ds o ≡ false
    go None h = refl
    go (Some l) h = among own_label ds l ∙ distinct_middle (labels_of ds) (labels_of es) l h

fine_step : (k : ℕ) (s : Sketch) (c : Content) (cs : List Content) → IsFineFrom s k (c ∷ cs) → (u : Sketch) × AddsTo k s c u
unfolding AddsTo with_fix with_fallback with_statement
fine_step k s said.Nothing cs h = (s, refl)
fine_step k s (said.Fix label number) cs h = go (address_of number) refl h.addresses.0 h.fixed
  where
    go : (o : Option ℕ) → address_of number ≡ o → IsSome o
        → AreDistinct (fix_labels (s.fixes ++ cons_option (option_map {U = Fix} (λ address. record { label = label; line = k; address = address }) o) (fixes_from (k + 1) cs)))
        → (u : Sketch) × AddsTo k s (said.Fix label number) u
    go None e i d = absurd (cc)
    go (Some a) e i d =
        let new : Fix = record { label = label; line = k; address = a } in
        let m = subst AreDistinct (filter_map-append fixed_label s.fixes (new ∷ fixes_from (k + 1) cs)) d in
        let f : has_fix s.fixes label ≡ false = among fixed_label s.fixes label ∙ distinct_middle (fix_labels s.fixes) (fix_labels (fixes_from (k + 1) cs)) label m in
        (with_fix k s label a, (a, e, f, refl))
fine_step k s (said.Fallback parts) cs h =
    (with_fallback k s parts, (none_before s.fallback (record { label = None; line = k; parts = parts }) (fallbacks_from (k + 1) cs) h.one_default, refl))
fine_step k s (said.Statement label parts) cs h =
    let new : Draft = record { label = label; line = k; parts = parts } in
    let l = length-append s.statements (new ∷ statements_from (k + 1) cs) in
    let few = h.few in
    let r : length s.statements + suc (length (statements_from (k + 1) cs)) ≤ 512 = omega (arith, l, few) in
    (with_statement k s label parts, (free_before s.statements (statements_from (k + 1) cs) new label refl h.labels, not_full (length s.statements) (length (statements_from (k + 1) cs)) r, refl))

pub fine_adds : (cs : List Content) (k : ℕ) (s : Sketch) → IsFineFrom s k cs → Makes parser k s cs (joined s k cs)
fine_adds [] k s h = sym (joined_none s k)
fine_adds (c ∷ cs) k s h =
    let u = fine_step k s c cs h in
    (u.0, tt, adds_content k s c u.0 u.1, subst (Makes parser (k + 1) u.0 cs) (join_step k s c u.0 cs (steps k s c u.0 cs u.1)) (fine_adds cs (k + 1) u.0 (forth k s c u.0 cs u.1 h)))

-- ---- from the first line on

empty_alone : (m : Machine) → IsFineAlone (empty m)
empty_alone m = record { labels = tt; few = omega arith; fixed = tt }

pub made_fine : (m : Machine) (cs : List Content) (t : Sketch) → Makes parser 1 (empty m) cs t → IsFine cs × (sketch_of m cs ≡ t)
unfolding joined
made_fine m cs t h =
    let f = adds_fine cs 1 (empty m) t (empty_alone m) h in
    (record { labels = f.0.labels; few = f.0.few; addresses = f.0.addresses; fixed = f.0.fixed; one_default = f.0.one_default }, f.1)

pub fine_made : (m : Machine) (cs : List Content) → IsFine cs → Makes parser 1 (empty m) cs (sketch_of m cs)
unfolding joined
fine_made m cs fine =
    fine_adds cs 1 (empty m) (record { labels = fine.labels; few = fine.few; addresses = fine.addresses; fixed = fine.fixed; one_default = fine.one_default })
