-- What sections make of the reader's record, one after the other: the lines of a unit, then the sections that hold them.
use Rattle.ijvm_asm.proofs.Common.{◌≡◌, ℕ, ◌+◌, ◌≤◌, Bool, true, false, List, [], ◌∷◌, ◌++◌, map, length, Option, Some, None, most_names, Constant}
use Rattle.ijvm_line.specs.declared.place.Place.TheVariants as places
use Rattle.source_text.specs.Places as names
use Rattle.ijvm_asm.specs.Prelude.{begun, Between, Body, CodeItem, Constants, Locals, Main, Method, Section, section_lines, Source, AreLocals, AreNew, code_from, declared, labels_in, lines_in, positions_in, waits_after, AreConstants, defined}

-- ---- a unit

-- the locals stand after the parameters, and the code of the unit follows
abbrev pub MakesLocals : Source → List (Option (List ℕ)) → Source → Type 0
MakesLocals s items u = AreLocals s.unit.names (declared items)
    × (u ≡ record s { place = places.Code; unit = record s.unit { names = s.unit.names ++ declared items } })

abbrev pub may_declare_after : Bool → List (Option CodeItem) → Bool
may_declare_after may [] = may
may_declare_after may (None ∷ items) = may_declare_after may items
may_declare_after may (Some c ∷ items) = false

-- code lines from line `k` on give the unit their labels and their instructions
abbrev pub MakesCode : ℕ → Source → List (Option CodeItem) → Source → Type 0
MakesCode k s items u = AreNew s.unit.labels (labels_in items)
    × (u ≡ record s {
      may_declare = may_declare_after s.may_declare items;
      unit = record s.unit {
        labels = s.unit.labels ++ labels_in items;
        label_positions = s.unit.label_positions ++ positions_in (length s.unit.lines) items;
        lines = s.unit.lines ++ lines_in k items;
        pending = waits_after s.unit.pending items;
      };
    })

-- the unit may declare locals, after blank lines, and its code starts at `code_from`
abbrev pub OpensLocals : ℕ → Source → Option Locals → Source → Type 0
OpensLocals k s None u = s ≡ u
OpensLocals k s (Some d) u = MakesLocals (record s { place = places.Locals; inner = k + d.blank_lines; may_declare = false }) d.names u

-- the locals, then the code, whose last label has an instruction
pub record MakesBody (k : ℕ) (s : Source) (body : Body) (u : Source) : Type 0 where
  pub after_locals : Source
  pub opens : OpensLocals k s body.locals after_locals
  pub makes : MakesCode (code_from k body.locals) after_locals body.code u
  pub ready : u.unit.pending ≡ false

-- ---- sections

-- the section of constants is the only one, its names are new, and it adds them in order with their values
abbrev pub MakesConstants : ℕ → Source → List (Option Constant) → Source → Type 0
MakesConstants k s items u = (s.seen_constants ≡ false) × AreConstants s.methods s.constants (defined items)
    × (u ≡ record s {
      place = places.Outside;
      section = k;
      seen_constants = true;
      constants = s.constants ++ map (λ c. c.name) (defined items);
      values = s.values ++ map (λ c. c.value) (defined items);
    })

-- main is the only one
pub record MakesMain (k : ℕ) (s : Source) (body : Body) (u : Source) : Type 0 where
  pub first : s.seen_main ≡ false
  pub last : Source
  pub content : MakesBody (k + 1) (record s { place = places.Code; section = k; may_declare = true; seen_main = true; unit = begun None [] }) body last
  pub ends : u ≡ record last { place = places.Outside; unit = begun None []; main = Some last.unit }

-- the method's name is that of no constant and of no method before it, and its parameters are at most 65,534
pub record MakesMethod (k : ℕ) (s : Source) (name : List ℕ) (ps : List (List ℕ)) (body : Body) (u : Source) : Type 0 where
  pub is_new : (names.place_of_name s.constants name ≡ None) × (names.place_of_name s.methods name ≡ None)
  pub once : AreNew [] ps
  pub few : length ps ≤ most_names
  pub last : Source
  pub content : MakesBody (k + 1) (record s { place = places.Code; section = k; may_declare = true; methods = s.methods ++ name ∷ []; unit = begun (Some name) ps }) body last
  pub ends : u ≡ record last { place = places.Outside; unit = begun None []; units = last.units ++ last.unit ∷ [] }

-- what a section makes, after the sections before it
abbrev pub Makes : ℕ → Source → Section → Source → Type 0
Makes k s Between u = s ≡ u
Makes k s (Constants items) u = MakesConstants k s items u
Makes k s (Main body) u = MakesMain k s body u
Makes k s (Method name ps body) u = MakesMethod k s name ps body u

-- each section makes something of the source that the sections before it leave
abbrev pub SectionsMake : ℕ → Source → List Section → Source → Type 0
SectionsMake k s [] t = s ≡ t
SectionsMake k s (x ∷ xs) t = (u : Source) × Makes k s x u × SectionsMake (k + length (section_lines x [])) u xs t
