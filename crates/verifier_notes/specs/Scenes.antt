-- The code of a unit in the list of a whole text: its notes, and where it stands.
use Rattle.std.proofs.Common.{◌≡◌, ◌<◌, ◌≤◌, ℕ, ◌+◌, ◌-◌, Bool, true, List, [], ◌∷◌, ◌++◌, length, Option, Some, None, refl, sym, ap, ◌∙◌, subst, arith}
use Rattle.std.proofs.Common.{append_assoc, length-append, slice_get}
use Rattle.verifier_notes.specs.Common.{flat_map, Instr, IsInstr, row_of, size_of, spelling, instr_at, ways_of, none-some, same_Some, ImageView, params}
use Rattle.verifier_notes.specs.Common.{others}
use Rattle.verifier_notes.specs.Noted.{Note}
use Rattle.verifier_notes.specs.Listed.{AllMet, Code, HasHeader, Header, IsMet, Item, items_size, note_at, own_note}
use Rattle.verifier_notes.specs.Seams.{items_append, note_at_seam}

-- which locals are surely set
abbrev pub Locals : Type 0
Locals = ℕ → Bool

-- whose the code is, in which image
pub record Frame : Type 0 where
  pub image : ImageView
  pub unit : Option ℕ
  -- the first local that the code may name
  pub first : ℕ

abbrev pub main_frame : ImageView → Frame
main_frame image = record { image = image; unit = None; first = 0 }

-- local 0 of a method has its link word
abbrev pub method_frame : ImageView → ℕ → Frame
method_frame image entry = record { image = image; unit = Some entry; first = 1 }

abbrev pub note_with : Frame → Locals → ℕ → Note
note_with f set d = record { unit = f.unit; depth = d; set = set }

-- the parameters of the method at this entry, where there is one
abbrev pub params_by : List ℕ → Option ℕ → ℕ
params_by text None = 0
params_by text (Some e) = params text e

abbrev pub takes_by : ImageView → ℕ → Option ℕ → ℕ
takes_by image needs None = needs
takes_by image needs (Some k) = params_by image.text (slice_get image.pool k)

-- the operands that an instruction takes
abbrev pub takes : ImageView → Instr → ℕ
takes image i = takes_by image (row_of i).needs (ways_of (row_of i).flow).call

abbrev pub next_depth : ImageView → Instr → ℕ → ℕ
next_depth image i d = d + (row_of i).gives - takes image i

-- how many operands there are after code without jumps
abbrev pub depth_after : ImageView → ℕ → List Instr → ℕ
depth_after image d [] = d
depth_after image d (i ∷ is) = depth_after image (next_depth image i d) is

-- code without jumps, with its notes
abbrev pub straight : Frame → Locals → ℕ → List Instr → List Item
straight f set d [] = []
straight f set d (i ∷ is) = Code i (note_with f set d) ∷ straight f set (next_depth f.image i d) is

-- a unit's items: a part, code without jumps, and an instruction that ends the flow
abbrev pub unit_items : Frame → Locals → List Item → List Instr → Instr → ℕ → List Item
unit_items f set body code i d = body ++ (straight f set 0 code ++ Code i (note_with f set d) ∷ [])

-- a note where the unit goes on: at this depth, and nothing else is set
pub record Suits (f : Frame) (set : Locals) (d : ℕ) (m : Note) : Type 0 where
  pub unit : m.unit ≡ f.unit
  pub depth : m.depth ≡ d
  pub set_before : (k : ℕ) → m.set k ≡ true → set k ≡ true

-- the code of a unit, in the list of the whole text
pub record Scene : Type 0 where
  pub frame : Frame
  pub whole : List Item
  -- how many locals the code may name
  pub many : ℕ
  pub counted : (e : ℕ) → frame.unit ≡ Some e
      → (0 < params frame.image.text e) × (frame.first + many ≤ params frame.image.text e + others frame.image.text e)
  pub headed : (e : ℕ) → frame.unit ≡ Some e → (0 < frame.first) × HasHeader 0 whole e
  pub main : frame.unit ≡ None → frame.first + many ≤ 256

abbrev pub main_scene : (image : ImageView) (whole : List Item) (many : ℕ) → many ≤ 256 → Scene
main_scene image whole many few = record {
  frame = main_frame image;
  whole = whole;
  many = many;
  counted = λ e h. absurd (none-some e h);
  headed = λ e h. absurd (none-some e h);
  main = λ h. omega (arith, few);
}

abbrev pub IsCounted : ImageView → ℕ → ℕ → Type 0
IsCounted image many entry = (0 < params image.text entry) × (1 + many ≤ params image.text entry + others image.text entry)

abbrev pub method_scene : (image : ImageView) (whole : List Item) (many entry : ℕ) → IsCounted image many entry → HasHeader 0 whole entry → Scene
method_scene image whole many entry counted headed = record {
  frame = method_frame image entry;
  whole = whole;
  many = many;
  counted = λ e h. subst (IsCounted image many) (same_Some entry e h) counted;
  headed = λ e h. (omega arith, subst (HasHeader 0 whole) (same_Some entry e h) headed);
  main = λ h. absurd (none-some entry (sym h));
}

pub its_own : (f : Frame) (set : Locals) (d : ℕ) → Suits f set d (note_with f set d)
its_own f set d = record { unit = refl; depth = refl; set_before = λ k e. e }

pub at_depth : (f : Frame) (set : Locals) (d e : ℕ) (m : Note) → d ≡ e → Suits f set d m → Suits f set e m
at_depth f set d e m same s = record { unit = s.unit; depth = s.depth ∙ same; set_before = s.set_before }

-- ---- the code of items

-- these items have this code
abbrev pub Spells : List Item → List Instr → Type 0
Spells [] [] = Unit {0}
Spells (Code i n ∷ xs) (j ∷ is) = (i ≡ j) × Spells xs is
Spells _ _ = ⊥

-- the items are instructions, which stand at this address one after the other
abbrev pub AreRead : List ℕ → ℕ → List Item → Type 0
AreRead text at [] = Unit {0}
AreRead text at (Code i n ∷ xs) = (instr_at text at ≡ Some i) × AreRead text (at + size_of (row_of i)) xs
AreRead text at (Header ∷ xs) = ⊥

pub joins : (a b : List Item) (c d : List Instr) → Spells a c → Spells b d → Spells (a ++ b) (c ++ d)
joins [] b [] d h k = k
joins [] b (j ∷ c) d h k = absurd h
joins (Code i n ∷ a) b [] d h k = absurd h
joins (Code i n ∷ a) b (j ∷ c) d h k = (h.0, joins a b c d h.1 k)
joins (Header ∷ a) b c d h k = absurd h

pub straight_spells : (f : Frame) (set : Locals) (d : ℕ) (is : List Instr) → Spells (straight f set d is) is
straight_spells f set d [] = tt
straight_spells f set d (i ∷ is) = (refl, straight_spells f set (next_depth f.image i d) is)

pub unit_spells : (f : Frame) (set : Locals) (body : List Item) (code : List Instr) (i : Instr) (d : ℕ) (is : List Instr) → Spells body is
    → Spells (unit_items f set body code i d) (is ++ (code ++ i ∷ []))
unit_spells f set body code i d is h = joins body _ is _ h (joins _ (Code i (note_with f set d) ∷ []) code (i ∷ []) (straight_spells f set 0 code) (refl, tt))

pub spelled_size : (xs : List Item) (is : List Instr) → Spells xs is → items_size xs ≡ length (flat_map spelling is)
spelled_size [] [] h = refl
spelled_size [] (j ∷ is) h = absurd h
spelled_size (Code i n ∷ xs) [] h = absurd h
spelled_size (Code i n ∷ xs) (j ∷ is) h =
    let e : size_of (row_of i) ≡ length (spelling j) = ap (λ x. size_of (row_of x)) h.0 in
    omega (arith, e, length-append (spelling j) (flat_map spelling is), spelled_size xs is h.1)
spelled_size (Header ∷ xs) is h = absurd h

pub read_front : (text : List ℕ) (a b : List Item) (at : ℕ) → AreRead text at (a ++ b) → AreRead text at a
read_front text [] b at h = tt
read_front text (Code i n ∷ a) b at h = (h.0, read_front text a b _ h.1)
read_front text (Header ∷ a) b at h = absurd h

pub read_back : (text : List ℕ) (a b : List Item) (at : ℕ) → AreRead text at (a ++ b) → AreRead text (at + items_size a) b
read_back text [] b at h = let e : at ≡ at + 0 = omega arith in subst (λ (x : ℕ). AreRead text x b) e h
read_back text (Code i n ∷ a) b at h =
    let e : at + size_of (row_of i) + items_size a ≡ at + (size_of (row_of i) + items_size a) = omega arith in
    subst (λ (x : ℕ). AreRead text x b) e (read_back text a b _ h.1)
read_back text (Header ∷ a) b at h = absurd h

-- the note of the first item
abbrev pub head_of : List Item → Option Note
head_of [] = None
head_of (x ∷ xs) = own_note x

pub head_there : (whole pre xs : List Item) (n : Note) (at : ℕ) → head_of xs ≡ Some n → whole ≡ pre ++ xs → at ≡ items_size pre → note_at whole at ≡ Some n
head_there whole pre [] n at h is e = cc
head_there whole pre (Code i m ∷ xs) n at h is e = note_at_seam whole pre i m xs at is e ∙ h
head_there whole pre (Header ∷ xs) n at h is e = cc

-- ---- where items stand

module _ (u : Scene) where
  abbrev pub There : ℕ → Note → Type 0
  There at n = note_at u.whole at ≡ Some n

  abbrev pub IsAt : ℕ → Instr → Type 0
  IsAt at i = instr_at u.frame.image.text at ≡ Some i

  abbrev pub Met : ℕ → List Item → Type 0
  Met = AllMet u.frame.image u.whole

  -- an instruction meets its note, which has these set locals and this depth
  abbrev pub MetWith : Locals → ℕ → Instr → ℕ → Type 0
  MetWith set at i d = IsMet u.frame.image u.whole at i (note_with u.frame set d)

  -- the items stand there with their notes, and after them this note
  abbrev pub Stands : ℕ → List Item → Note → Type 0
  Stands at [] last = There at last
  Stands at (Code i n ∷ xs) last = IsAt at i × There at n × Stands (at + size_of (row_of i)) xs last
  Stands at (Header ∷ xs) last = ⊥

  pub stands_back : (a b : List Item) (at : ℕ) (last : Note) → Stands at (a ++ b) last → Stands (at + items_size a) b last
  stands_back [] b at last h = let e : at ≡ at + 0 = omega arith in subst (λ (x : ℕ). Stands x b last) e h
  stands_back (Code i n ∷ a) b at last h =
      let e : at + size_of (row_of i) + items_size a ≡ at + (size_of (row_of i) + items_size a) = omega arith in
      subst (λ (x : ℕ). Stands x b last) e (stands_back a b _ last h.2)
  stands_back (Header ∷ a) b at last h = absurd h

  pub stands_front : (a b : List Item) (at : ℕ) (last m : Note) → Stands at (a ++ b) last → There (at + items_size a) m → Stands at a m
  stands_front [] b at last m h e = let z : at ≡ at + 0 = omega arith in ap (note_at u.whole) z ∙ e
  stands_front (Code i n ∷ a) b at last m h e =
      let z : at + size_of (row_of i) + items_size a ≡ at + (size_of (row_of i) + items_size a) = omega arith in
      (h.0, h.1, stands_front a b _ last m h.2 (ap (note_at u.whole) z ∙ e))
  stands_front (Header ∷ a) b at last m h e = absurd h

  pub stands_end : (a : List Item) (at : ℕ) (last : Note) → Stands at a last → There (at + items_size a) last
  stands_end [] at last h = let e : at + 0 ≡ at = omega arith in ap (note_at u.whole) e ∙ h
  stands_end (Code i n ∷ a) at last h =
      let e : at + (size_of (row_of i) + items_size a) ≡ at + size_of (row_of i) + items_size a = omega arith in
      ap (note_at u.whole) e ∙ stands_end a _ last h.2
  stands_end (Header ∷ a) at last h = absurd h

  -- items stand where they are read, between the others of the list
  pub stands_at : (pre xs post : List Item) (i : Instr) (m : Note) (at : ℕ) → u.whole ≡ pre ++ (xs ++ (Code i m ∷ post)) → at ≡ items_size pre
      → AreRead u.frame.image.text at xs → Stands at xs m
  stands_at pre [] post i m at is e h = note_at_seam u.whole pre i m post at is e
  stands_at pre (Code j n ∷ xs) post i m at is e h =
      let later : List Item = xs ++ (Code i m ∷ post) in
      let next : u.whole ≡ (pre ++ Code j n ∷ []) ++ later = is ∙ sym (append_assoc pre (Code j n ∷ []) later) in (
        h.0,
        note_at_seam u.whole pre j n later at is e,
        stands_at (pre ++ Code j n ∷ []) xs post i m (at + size_of (row_of j)) next (omega (arith, e, items_append pre (Code j n ∷ []))) h.1,
      )
  stands_at pre (Header ∷ xs) post i m at is e h = absurd h

-- operands are in their ranges
abbrev pub AreInstrs : List Instr → Type 0
AreInstrs [] = Unit {0}
AreInstrs (i ∷ is) = IsInstr i × AreInstrs is

-- items are read where the bytes of their code stand
module _ (written : (before after : List ℕ) (i : Instr) → IsInstr i → instr_at (before ++ (spelling i ++ after)) (length before) ≡ Some i) where
  pub written_read : (text : List ℕ) (xs : List Item) (is : List Instr) (front back : List ℕ) → Spells xs is → AreInstrs is
      → text ≡ front ++ (flat_map spelling is ++ back) → AreRead text (length front) xs
  written_read text [] is front back spelled real e = tt
  written_read text (Code i n ∷ xs) [] front back spelled real e = absurd spelled
  written_read text (Code i n ∷ xs) (j ∷ is) front back spelled real e =
      let rest : List ℕ = flat_map spelling is ++ back in
      let here : text ≡ front ++ (spelling j ++ rest) = e ∙ ap (λ x. front ++ x) (append_assoc (spelling j) (flat_map spelling is) back) in
      let long : length (front ++ spelling j) ≡ length front + size_of (row_of i) =
      length-append front (spelling j) ∙ ap (λ x. length front + size_of (row_of x)) (sym spelled.0) in (
        ap (λ (x : List ℕ). instr_at x (length front)) here ∙ written front rest j real.0 ∙ ap Some (sym spelled.0),
        subst (λ (x : ℕ). AreRead text x xs) long
            (written_read text xs is (front ++ spelling j) back spelled.1 real.1 (here ∙ sym (append_assoc front (spelling j) rest))),
      )
  written_read text (Header ∷ xs) is front back spelled real e = absurd spelled
