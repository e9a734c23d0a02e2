-- What sections make is sound: names and values go together, labels stand before instructions, and units are few enough.
use Rattle.ijvm_asm.proofs.Common.{◌≡◌, ℕ, ◌+◌, ◌<◌, ◌≤◌, Bool, true, false, List, [], ◌∷◌, ◌++◌, map, length, Option, Some, None, refl, ap, sym, subst, ◌∙◌}
use Rattle.ijvm_asm.proofs.Common.{arith, length-append, ◌||◌, All, is_some, IsSome, ⊤, All-append, All-cons, All-nil, most_names, Instruction}
use Rattle.std.proofs.lemmas.List.{append_assoc, length-map, append-nil}
use Rattle.ijvm_asm.specs.Prelude.{Between, Body, CodeItem, Constants, Locals, Main, Method, Section, section_lines, DraftView, empty, Source, AreLocals, positions_in, after_instruction, code_from, declared, lines_in, waits, waits_after, with_position, with_instruction, defined}
use Rattle.ijvm_asm.proofs.Made.{Makes, MakesBody, OpensLocals, SectionsMake}
use Rattle.ijvm_asm.proofs.Kept.{body_keeps, body_lines_are, opens_unit}

-- ---- what is sound

pub record Drafted (u : DraftView) : Type 0 where
  pub few : length u.names ≤ most_names
  pub label_positions : All (λ at. at < length u.lines) u.label_positions

abbrev pub IsMain : Option DraftView → Type 0
IsMain None = ⊤
IsMain (Some u) = Drafted u × (u.name ≡ None) × (u.parameters ≡ 0)

abbrev pub IsMethod : DraftView → Type 0
IsMethod u = Drafted u × IsSome u.name

pub record Sound (s : Source) : Type 0 where
  pub values : length s.constants ≡ length s.values
  pub methods : length s.units ≡ length s.methods
  pub main : IsMain s.main
  pub units : All IsMethod s.units

-- ---- labels stand before instructions

weaker : (m n : ℕ) (xs : List ℕ) → m ≤ n → All (λ a. a < m) xs → All (λ a. a < n) xs
weaker m n xs le all k d h = let a = all k d h in omega (arith, a, le)

some_after : (items : List (Option CodeItem)) (k : ℕ) → waits_after true items ≡ false → 1 ≤ length (lines_in k items)
some_after [] k w = absurd (cc)
some_after (None ∷ items) k w = some_after items (k + 1) w
some_after (Some c ∷ items) k w = go (is_some c.label) c.instruction (some_after items (k + 1)) w
  where
    go : (a : Bool) (i : Option Instruction) → (waits_after true items ≡ false → 1 ≤ length (lines_in (k + 1) items))
        → waits_after (waits (a || true) i) items ≡ false → 1 ≤ length (with_instruction k i (lines_in (k + 1) items))
    go true None rec w = rec w
    go false None rec w = rec w
    go a (Some i) rec w = omega arith

positions_below : (items : List (Option CodeItem)) (n k : ℕ) (b : Bool) → waits_after b items ≡ false → All (λ at. at < n + length (lines_in k items)) (positions_in n items)
positions_below [] n k b w = All-nil (λ at. at < n + 0)
positions_below (None ∷ items) n k b w = positions_below items n (k + 1) b w
positions_below (Some c ∷ items) n k b w = go c.label c.instruction (λ n b w. positions_below items n (k + 1) b w) w
  where
    go : (l : Option (List ℕ)) (i : Option Instruction) → ((n : ℕ) (b : Bool) → waits_after b items ≡ false → All (λ at. at < n + length (lines_in (k + 1) items)) (positions_in n items))
        → waits_after (waits (is_some l || b) i) items ≡ false
        → All (λ at. at < n + length (with_instruction k i (lines_in (k + 1) items))) (with_position n l (positions_in (after_instruction n i) items))
    go None None rec w = rec n b w
    go None (Some i) rec w = weaker ((n + 1) + length (lines_in (k + 1) items)) (n + length (with_instruction k (Some i) (lines_in (k + 1) items))) (positions_in (n + 1) items) (omega arith) (rec (n + 1) false w)
    go (Some l) None rec w = All-cons (λ at. at < n + length (lines_in (k + 1) items)) n (positions_in n items) (let s = some_after items (k + 1) w in omega (arith, s)) (rec n true w)
    go (Some l) (Some i) rec w = All-cons (λ at. at < n + length (with_instruction k (Some i) (lines_in (k + 1) items))) n (positions_in (n + 1) items) (omega arith)
        (weaker ((n + 1) + length (lines_in (k + 1) items)) (n + length (with_instruction k (Some i) (lines_in (k + 1) items))) (positions_in (n + 1) items) (omega arith) (rec (n + 1) false w))

-- ---- a unit

locals_few : (ns seen : List (List ℕ)) → AreLocals seen ns → length seen ≤ most_names → length (seen ++ ns) ≤ most_names
locals_few [] seen a h = subst (λ xs. length xs ≤ most_names) (sym (append-nil seen)) h
locals_few (n ∷ ns) seen (new, few, more) h =
    let l = length-append seen (n ∷ []) in
    subst (λ xs. length xs ≤ most_names) (append_assoc seen (n ∷ []) ns) (locals_few ns (seen ++ n ∷ []) more (omega (arith, few, l)))

opens_few : (o : Option Locals) (k : ℕ) (s v : Source) → OpensLocals k s o v → length s.unit.names ≤ most_names → length v.unit.names ≤ most_names
opens_few None k s v q h = subst (λ w. length w.unit.names ≤ most_names) q h
opens_few (Some d) k s v q h = subst (λ ns. length ns ≤ most_names) (sym (ap (λ w. w.unit.names) q.1)) (locals_few (declared d.names) s.unit.names q.0 h)

-- the lines of a unit that has none before make a draft
body_drafted : (k : ℕ) (s : Source) (b : Body) (t : Source) → MakesBody k s b t → length s.unit.names ≤ most_names → s.unit.lines ≡ [] → s.unit.label_positions ≡ [] → Drafted t.unit
body_drafted k s b t m few no_lines no_positions =
    let v = m.after_locals in
    let j = code_from k b.locals in
    let names : t.unit.names ≡ v.unit.names = ap (λ w. w.unit.names) m.makes.1 in
    let positions0 : v.unit.label_positions ≡ [] = opens_unit (λ u. u.label_positions) (λ u ns. refl) b.locals k s v m.opens ∙ no_positions in
    let lines0 : v.unit.lines ≡ [] = opens_unit (λ u. u.lines) (λ u ns. refl) b.locals k s v m.opens ∙ no_lines in
    let lines : t.unit.lines ≡ lines_in j b.code = body_lines_are k s b t m ∙ ap (λ ls. ls ++ lines_in j b.code) no_lines in
    let label_positions : t.unit.label_positions ≡ positions_in 0 b.code = ap (λ w. w.unit.label_positions) m.makes.1
    ∙ (ap (λ label_positions. label_positions ++ positions_in (length v.unit.lines) b.code) positions0 ∙ ap (λ ls. positions_in (length ls) b.code) lines0) in
    let waits : waits_after v.unit.pending b.code ≡ false = sym (ap (λ w. w.unit.pending) m.makes.1) ∙ m.ready in
    record {
      few = subst (λ ns. length ns ≤ most_names) (sym names) (opens_few b.locals k s v m.opens few);
      label_positions = subst (λ label_positions. All (λ at. at < length t.unit.lines) label_positions) (sym label_positions)
          (subst (λ ls. All (λ at. at < length ls) (positions_in 0 b.code)) (sym lines)
          (weaker (0 + length (lines_in j b.code)) (length (lines_in j b.code)) (positions_in 0 b.code) (omega arith) (positions_below b.code 0 j v.unit.pending waits)));
    }

body_unit : {A : Type 0} (f : DraftView → A) → ((u : DraftView) (ns : List (List ℕ)) → f (record u { names = ns }) ≡ f u)
    → ((u : DraftView) (ls : List (List ℕ)) (label_positions : List ℕ) (ds : List _) (p : Bool) → f (record u { labels = ls; label_positions = label_positions; lines = ds; pending = p }) ≡ f u)
    → (k : ℕ) (s : Source) (b : Body) (t : Source) → MakesBody k s b t → f t.unit ≡ f s.unit
body_unit f keeps stays k s b t m = ap (λ w. f w.unit) m.makes.1 ∙ (stays m.after_locals.unit _ _ _ _ ∙ opens_unit f keeps b.locals k s m.after_locals m.opens)

-- ---- sections

section_sound : (x : Section) (k : ℕ) (s u : Source) → Makes k s x u → Sound s → Sound u
section_sound Between k s u m h = subst Sound m h
section_sound (Constants items) k s u (n, new, q) h =
    let a = length-append s.constants (map (λ c. c.name) (defined items)) in
    let b = length-append s.values (map (λ c. c.value) (defined items)) in
    let c : length (map (λ c. c.name) (defined items)) ≡ length (defined items) = length-map (defined items) (λ c. c.name) in
    let d : length (map (λ c. c.value) (defined items)) ≡ length (defined items) = length-map (defined items) (λ c. c.value) in
    let e = h.values in
    subst Sound (sym q) (record { values = omega (arith, a, b, c, d, e); methods = h.methods; main = h.main; units = h.units })
section_sound (Main body) k s u m h =
    let t = m.last in
    let c = m.content in
    let values : length t.constants ≡ length t.values = body_keeps (λ w. length w.constants) (λ w p n b v. refl) (k + 1) _ body t c
    ∙ (h.values ∙ sym (body_keeps (λ w. length w.values) (λ w p n b v. refl) (k + 1) _ body t c)) in
    let methods : length t.units ≡ length t.methods = body_keeps (λ w. length w.units) (λ w p n b v. refl) (k + 1) _ body t c
    ∙ (h.methods ∙ sym (body_keeps (λ w. length w.methods) (λ w p n b v. refl) (k + 1) _ body t c)) in
    let units : t.units ≡ s.units = body_keeps (λ w. w.units) (λ w p n b v. refl) (k + 1) _ body t c in
    subst Sound (sym m.ends) (record {
      values = values;
      methods = methods;
      main = (
        body_drafted (k + 1) _ body t c (omega arith) refl refl,
        body_unit (λ u. u.name) (λ u ns. refl) (λ u ls label_positions ds p. refl) (k + 1) _ body t c,
        body_unit (λ u. u.parameters) (λ u ns. refl) (λ u ls label_positions ds p. refl) (k + 1) _ body t c,
      );
      units = subst (All IsMethod) (sym units) h.units;
    })
section_sound (Method name ps body) k s u m h =
    let t = m.last in
    let c = m.content in
    let values : length t.constants ≡ length t.values = body_keeps (λ w. length w.constants) (λ w p n b v. refl) (k + 1) _ body t c
    ∙ (h.values ∙ sym (body_keeps (λ w. length w.values) (λ w p n b v. refl) (k + 1) _ body t c)) in
    let units : t.units ≡ s.units = body_keeps (λ w. w.units) (λ w p n b v. refl) (k + 1) _ body t c in
    let names : t.methods ≡ s.methods ++ name ∷ [] = body_keeps (λ w. w.methods) (λ w p n b v. refl) (k + 1) _ body t c in
    let main : t.main ≡ s.main = body_keeps (λ w. w.main) (λ w p n b v. refl) (k + 1) _ body t c in
    let named : t.unit.name ≡ Some name = body_unit (λ u. u.name) (λ u ns. refl) (λ u ls label_positions ds p. refl) (k + 1) _ body t c in
    let method : IsMethod t.unit = (body_drafted (k + 1) _ body t c m.few refl refl, ap is_some named) in
    let a = length-append t.units (t.unit ∷ []) in
    let b = ap length units in
    let d = ap length names in
    let e = length-append s.methods (name ∷ []) in
    let f = h.methods in
    subst Sound (sym m.ends) (record {
      values = values;
      methods = omega (arith, a, b, d, e, f);
      main = subst IsMain (sym main) h.main;
      units = All-append IsMethod t.units (t.unit ∷ []) (subst (All IsMethod) (sym units) h.units) (All-cons IsMethod t.unit [] method (All-nil IsMethod));
    })

sections_sound : (xs : List Section) (k : ℕ) (s t : Source) → SectionsMake k s xs t → Sound s → Sound t
sections_sound [] k s t m h = subst Sound m h
sections_sound (x ∷ xs) k s t (u, m, more) h = sections_sound xs (k + length (section_lines x [])) u t more (section_sound x k s u m h)

pub made_sound : (xs : List Section) (t : Source) → SectionsMake 1 empty xs t → Sound t
made_sound xs t m = sections_sound xs 1 empty t m (record { values = refl; methods = refl; main = tt; units = All-nil IsMethod })
