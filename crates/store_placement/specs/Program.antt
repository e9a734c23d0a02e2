-- What a program asks of a placement, and each of its statements at one.
use Rattle.std.specs.Prelude.{◌≡◌, ◌≢◌, ◌<◌, ℕ, ◌+◌, List, ◌++◌, Option, Some, None, length, map, slice_get, slice_index, option_and_then, IsTrue}
use Rattle.std.specs.List.{filter_map}
use Rattle.std.specs.Option.{option_to_list}
use Rattle.mic_words.specs.declared.machine.Machine.{Machine}
use Rattle.micro_word.specs.declared.statement.Placed.{Placed}
use Rattle.micro_word.specs.declared.statement.PlacedNext.{PlacedNext}
use Rattle.micro_word.specs.declared.statement.PlacedNext.TheVariants as placed
use Rattle.micro_word.specs.Prelude.{idle, microword_of, is_valid}
use Rattle.mal_line.specs.declared.next.Next.{Next}
use Rattle.mal_line.specs.declared.next.Next.TheVariants as nexts
use Rattle.mal_parser.specs.declared.statement.Statement.{Statement}
use Rattle.mal_parser.specs.Prelude.{MalView}
use Rattle.store_placement.specs.declared.pair.Pair.{Pair}
use Rattle.store_placement.specs.Demands.{Demands}

-- the targets of a conditional
abbrev pub pair_of : Next ℕ → Option Pair
pair_of (nexts.Branch test high low) = Some (record { yes = high; no = low })
pair_of nexts.Following = None
pair_of (nexts.Goto to) = None
pair_of (nexts.Dispatch high) = None

abbrev pub statement_pair : Statement → Option Pair
statement_pair s = pair_of s.next

-- the fixed addresses, and the pairs of the conditionals, the one of `.default` included
unfoldable pub demands_of : MalView → Demands
demands_of program =
    record {
      fixed = map (λ s. s.fixed) program.statements;
      pairs = filter_map statement_pair program.statements ++ option_to_list (option_and_then statement_pair program.fallback);
    }

-- where the statement with this number goes next
abbrev pub placed_next : (ℕ → ℕ) → ℕ → Next ℕ → PlacedNext
placed_next address number nexts.Following = placed.Goto (address (number + 1))
placed_next address number (nexts.Goto to) = placed.Goto (address to)
placed_next address number (nexts.Dispatch high) = placed.Dispatch high
placed_next address number (nexts.Branch test high low) = placed.Branch test (address low)

-- the statements whose addresses it needs exist
abbrev pub LeadsInside : ℕ → ℕ → Next ℕ → Type 0
LeadsInside count number nexts.Following = number + 1 < count
LeadsInside count number (nexts.Goto to) = to < count
LeadsInside count number (nexts.Dispatch high) = Unit {0}
LeadsInside count number (nexts.Branch test high low) = low < count

abbrev pub placed_statement : (ℕ → ℕ) → ℕ → Statement → Placed
placed_statement address number s = record { part = s.part; next = placed_next address number s.next }

-- the placed statement is the one with this number
abbrev pub IsPlacedAs : MalView → List ℕ → ℕ → Placed → Type 0
IsPlacedAs program addresses s p = (t : Statement) → slice_get program.statements s ≡ Some t → p ≡ placed_statement (slice_index addresses) s t

-- `goto` address 0x0FE, where a run ends by error
abbrev pub goto_end : Placed
goto_end = record { part = idle; next = placed.Goto 254 }

-- what unused words hold: the statement of `.default`, or `goto` address 0x0FE where there is none
abbrev pub placed_default : (ℕ → ℕ) → Option Statement → Placed
placed_default address None = goto_end
placed_default address (Some s) = placed_statement address 0 s

-- the word decodes to the statement
pub record Decodes (machine : Machine) (word : ℕ) (p : Placed) : Type 0 where
  pub valid : IsTrue (is_valid machine p)
  pub whole : microword_of machine p ≡ word

-- each statement stands at its address, and what unused words hold at every other
pub record IsFilled (program : MalView) (addresses words : List ℕ) : Type 0 where
  pub statements : (s : ℕ) (t : Statement) → slice_get program.statements s ≡ Some t →
      Decodes program.machine (slice_index words (slice_index addresses s)) (placed_statement (slice_index addresses) s t)
  pub others : (a : ℕ) → a < 512 → ((s : ℕ) → s < length program.statements → slice_index addresses s ≢ a) →
      Decodes program.machine (slice_index words a) (placed_default (slice_index addresses) program.fallback)

-- no statement is at the address
abbrev pub IsAtNone : List ℕ → ℕ → Type 0
IsAtNone addresses address = (s : ℕ) → s < length addresses → slice_index addresses s ≢ address

-- s is the one statement at the address
pub record IsOnlyAt (addresses : List ℕ) (address s : ℕ) : Type 0 where
  pub inside : s < length addresses
  pub there : slice_index addresses s ≡ address
  pub only : (t : ℕ) → t < length addresses → slice_index addresses t ≡ address → t ≡ s
