-- A microprogram in the control store: each statement at its chosen address.
use Rattle.std.specs.Prelude.{◌≡◌, slice_index, ℕ, List}
use Rattle.mic_words.specs.declared.machine.Machine.{Machine}
use Rattle.mal_parser.specs.Prelude.{MalView}
use Rattle.store_placement.specs.Prelude.{IsChosenList, demands_of, IsFilled}
use Rattle.mal_shipped.specs.declared.loaded.Loaded.{Loaded}
use Rattle.mal_shipped.specs.Listing.{listed_program}

pub record IsLoaded (program : MalView) (l : Loaded) : Type 0 where
  pub machine : l.store.machine ≡ program.machine
  pub chosen : IsChosenList (demands_of program) l.placement
  pub filled : IsFilled program l.placement l.store.words
  pub entry : l.entry ≡ slice_index l.placement program.entry

-- these addresses are the chosen ones of the machine's listed program
abbrev pub AreChosenFor : Machine → List ℕ → Type 0
AreChosenFor machine addresses = IsChosenList (demands_of (listed_program machine)) addresses

-- this is the machine's listed program in the control store
abbrev pub IsLoadedFor : Machine → Loaded → Type 0
IsLoadedFor machine l = IsLoaded (listed_program machine) l
