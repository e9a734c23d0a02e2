-- What sections declare, one after the other: no name comes twice among those that it must differ from.
use Rattle.std.specs.Prelude.{◌≡◌, ℕ, ◌+◌, ◌≤◌, Bool, true, false, List, [], ◌∷◌, ◌++◌, map, length, Option, Some, None, ⊤}
use Rattle.ijvm_asm.specs.Common.{most_names, Constant}
use Rattle.source_text.specs.Places as names
use Rattle.ijvm_asm.specs.Sections.{Between, Body, Constants, Main, Method, Section, section_lines}
use Rattle.ijvm_asm.specs.Drafts.{DraftView}
use Rattle.ijvm_asm.specs.Units.{AreNew, MakesUnit}

-- what sections declare so far: constants with their values, methods with their units, and main
pub record Declarations : Type 0 where
  -- there was a section of constants
  pub seen_constants : Bool
  pub constants : List (List ℕ)
  -- for each constant its value
  pub values : List ℕ
  pub methods : List (List ℕ)
  pub main : Option DraftView
  -- for each method its unit
  pub units : List DraftView

abbrev pub nothing : Declarations
nothing = record { seen_constants = false; constants = []; values = []; methods = []; main = None; units = [] }

-- ---- constants

abbrev pub defined : List (Option Constant) → List Constant
defined [] = []
defined (None ∷ items) = defined items
defined (Some c ∷ items) = c ∷ defined items

-- no name comes twice: each is that of no method, and of no constant before it
abbrev pub AreConstants : List (List ℕ) → List (List ℕ) → List Constant → Type 0
AreConstants methods seen [] = ⊤
AreConstants methods seen (c ∷ cs) = (names.place_of_name seen c.name ≡ None) × (names.place_of_name methods c.name ≡ None)
    × AreConstants methods (seen ++ c.name ∷ []) cs

-- the section of constants is the only one, its names are new, and it adds them in order with their values
pub record AddsConstants (d : Declarations) (items : List (Option Constant)) (e : Declarations) : Type 0 where
  pub first : d.seen_constants ≡ false
  pub new : AreConstants d.methods d.constants (defined items)
  pub adds : e ≡ record d {
    seen_constants = true;
    constants = d.constants ++ map (λ c. c.name) (defined items);
    values = d.values ++ map (λ c. c.value) (defined items);
  }

-- ---- units

-- main is the only one; line `k` begins it
pub record AddsMain (k : ℕ) (d : Declarations) (body : Body) (e : Declarations) : Type 0 where
  pub first : d.main ≡ None
  pub unit : DraftView
  pub is : MakesUnit (k + 1) None [] body unit
  pub adds : e ≡ record d { main = Some unit }

-- the method's name is that of no constant and of no method before it, and its parameters are at most 65,534; line `k` begins it
pub record AddsMethod (k : ℕ) (d : Declarations) (name : List ℕ) (ps : List (List ℕ)) (body : Body) (e : Declarations) : Type 0 where
  pub new : (names.place_of_name d.constants name ≡ None) × (names.place_of_name d.methods name ≡ None)
  pub once : AreNew [] ps
  pub few : length ps ≤ most_names
  pub unit : DraftView
  pub is : MakesUnit (k + 1) (Some name) ps body unit
  pub adds : e ≡ record d { methods = d.methods ++ name ∷ []; units = d.units ++ unit ∷ [] }

-- ---- sections, one after the other

-- what a section adds to what the sections before it declare
abbrev pub SectionAdds : ℕ → Declarations → Section → Declarations → Type 0
SectionAdds k d Between e = d ≡ e
SectionAdds k d (Constants items) e = AddsConstants d items e
SectionAdds k d (Main body) e = AddsMain k d body e
SectionAdds k d (Method name ps body) e = AddsMethod k d name ps body e

-- sections from line `k` on, each after those before it
abbrev pub SectionsDeclare : ℕ → Declarations → List Section → Declarations → Type 0
SectionsDeclare k d [] e = d ≡ e
SectionsDeclare k d (x ∷ xs) e = (c : Declarations) × SectionAdds k d x c × SectionsDeclare (k + length (section_lines x [])) c xs e
