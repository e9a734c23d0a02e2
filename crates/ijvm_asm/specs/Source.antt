-- The reader's record: what the sections that are ended declare, and the one that is open.
use Rattle.std.specs.Prelude.{ℕ, Bool, false, List, [], Option, None}
use Rattle.ijvm_line.specs.declared.place.Place.{Place}
use Rattle.ijvm_line.specs.declared.place.Place.TheVariants as places
use Rattle.ijvm_asm.specs.Drafts.{begun, DraftView}
use Rattle.ijvm_asm.specs.Making.{Declarations}

pub record Source : Type 0 where
  -- where the next line stands
  pub place : Place
  -- the line that began the open section, and the one that began the open locals
  pub section : ℕ
  pub inner : ℕ
  -- the open unit may still declare its locals
  pub may_declare : Bool
  pub seen_constants : Bool
  pub seen_main : Bool
  pub constants : List (List ℕ)
  -- for each constant its value
  pub values : List ℕ
  pub methods : List (List ℕ)
  pub unit : DraftView
  pub main : Option DraftView
  -- the methods that are ended
  pub units : List DraftView

abbrev pub empty : Source
empty = record {
  place = places.Outside;
  section = 0;
  inner = 0;
  may_declare = false;
  seen_constants = false;
  seen_main = false;
  constants = [];
  values = [];
  methods = [];
  unit = begun None [];
  main = None;
  units = [];
}

abbrev pub declarations_of : Source → Declarations
declarations_of s =
    record {
      seen_constants = s.seen_constants;
      constants = s.constants;
      values = s.values;
      methods = s.methods;
      main = s.main;
      units = s.units;
    }
