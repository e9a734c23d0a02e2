-- Tables in which each node names earlier numbers alone, and that each of them fits an environment.
use Rattle.std.specs.Prelude.{◌≡◌, ◌<◌, ℕ, List, Some, slice_get, slice_index}
use Rattle.std.specs.List.{All}
use Rattle.console_port.specs.World.{World}
use Rattle.micro_terms.specs.Environment.{Environment}
use Rattle.micro_terms.specs.Meaning.{Fits}
use Rattle.micro_terms.specs.declared.term.Term.{Term}
use Rattle.micro_terms.specs.declared.node.Kind.{Kind}
use Rattle.micro_terms.specs.declared.node.Kind.TheVariants as kinds
use Rattle.micro_terms.specs.declared.node.Node.{Node}
use Rattle.micro_terms.specs.declared.node.Node.TheVariants.{Free, Sum, Other}

-- a sum names numbers below n alone
abbrev pub NamesSumBelow : ℕ → Term → Type 0
NamesSumBelow n t = All (λ p. p.number < n) t.parts.items

abbrev pub NamesKindBelow : ℕ → Kind → Type 0
NamesKindBelow n (kinds.And left right) = (left < n) × (right < n)
NamesKindBelow n (kinds.Half x) = x < n
NamesKindBelow n (kinds.Word at) = at < n
NamesKindBelow n (kinds.Byte at) = at < n
NamesKindBelow n (kinds.SignedByte at) = at < n
NamesKindBelow n (kinds.Input before) = Unit {0}
NamesKindBelow n (kinds.Quarter x) = x < n
NamesKindBelow n (kinds.Piece x at) = (x < n) × (at < n)
NamesKindBelow n (kinds.SignedPiece x at) = (x < n) × (at < n)
NamesKindBelow n (kinds.Choice left right same other) = (left < n) × (right < n) × (same < n) × (other < n)

-- a node names numbers below n alone
abbrev pub NamesBelow : ℕ → Node → Type 0
NamesBelow n Free = Unit {0}
NamesBelow n (Sum term) = NamesSumBelow n term
NamesBelow n (Other kind) = NamesKindBelow n kind

abbrev pub AreOrdered : List Node → Type 0
AreOrdered table = (i : ℕ) (node : Node) → slice_get table i ≡ Some node → NamesBelow i node

-- the environment has this start, and these words at the free numbers
pub record HasFree (e : Environment) (start : World) (free : ℕ → ℕ) (table : List Node) : Type 0 where
  pub starts : e.start ≡ start
  pub free_words : (i : ℕ) → slice_get table i ≡ Some Free → e.word i ≡ free i

-- Each such table fits an environment, whatever the start and the words of the free numbers, if all are words.
abbrev pub HasEnvironments : Type 0
HasEnvironments =
    (table : List Node) (start : World) (free : ℕ → ℕ) → AreOrdered table →
    ((i : ℕ) → slice_index start.words i < 4294967296) → ((i : ℕ) → free i < 4294967296) →
    (e : Environment) × Fits e table × HasFree e start free table
