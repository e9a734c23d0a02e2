-- What a line of a source says, by its tokens.
use Rattle.std.specs.Prelude.{◌≡◌, ℕ, List, Option, ⊤}
use Rattle.ijvm_asm.specs.Common.{Token, Place, Mark, Content, Instruction, parameters, mark_place}
use Rattle.ijvm_line.specs.declared.place.Place.TheVariants as places
use Rattle.ijvm_line.specs.declared.content.Content.TheVariants as contents
use Rattle.ijvm_line.specs.Lines as lines

pub data Said : Type 0 where
  -- nothing, at this place
  BlankAt : (place : Place) → Said
  -- a dotted word that begins or ends
  Dotted : (mark : Mark) → Said
  -- `.method NAME(P, P)`
  Heads : (name : List ℕ) → (parameters : List (List ℕ)) → Said
  -- `NAME NUMBER`
  Defines : (name : List ℕ) → (value : ℕ) → Said
  -- `NAME`
  Declares : (name : List ℕ) → Said
  -- `[LABEL:] [INSTRUCTION]`
  Codes : (label : Option (List ℕ)) → (instruction : Option Instruction) → Said

-- where such a line stands
abbrev pub place_of : Said → Place
place_of (BlankAt place) = place
place_of (Dotted mark) = mark_place mark
place_of (Heads name ps) = places.Outside
place_of (Defines name value) = places.Constants
place_of (Declares name) = places.Locals
place_of (Codes label instruction) = places.Code

abbrev pub line_meant : Said → Content
line_meant (BlankAt place) = contents.Nothing
line_meant (Dotted mark) = contents.Mark mark
line_meant (Heads name ps) = contents.Method name
line_meant (Defines name value) = contents.Constant name value
line_meant (Declares name) = contents.Local name
line_meant (Codes label instruction) = contents.Code label instruction

-- the tokens name the parameters, where they begin a method
abbrev pub Lists : List Token → Said → Type 0
Lists ts (Heads name ps) = parameters ts ≡ ps
Lists ts _ = ⊤

-- the tokens say this, at its place
abbrev pub Says : List Token → Said → Type 0
Says ts said = lines.SpellsLine (place_of said) ts (line_meant said) × Lists ts said

-- what says this at the place, with these parameters where it begins a method
abbrev pub said_at : Place → List (List ℕ) → Content → Said
said_at place ps contents.Nothing = BlankAt place
said_at place ps (contents.Mark mark) = Dotted mark
said_at place ps (contents.Method name) = Heads name ps
said_at place ps (contents.Constant name value) = Defines name value
said_at place ps (contents.Local name) = Declares name
said_at place ps (contents.Code label instruction) = Codes label instruction
