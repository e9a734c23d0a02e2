-- How a node ties its number's word to the words of other numbers and to the start.
use Rattle.std.specs.Prelude.{◌≡◌, ◌<◌, ◌/◌, ◌%◌, ◌==◌, if◌then◌else◌, ℕ, Bool, true, false, List, Some, bit_and, drop, slice_get, slice_index}
use Rattle.mic_words.specs.Arithmetic.{half, signed_byte}
use Rattle.console_port.specs.World.{byte_in, byte_of, next_byte}
use Rattle.micro_terms.specs.Value.{value}
use Rattle.micro_terms.specs.Environment.{Environment}
use Rattle.micro_terms.specs.declared.node.Kind.{Kind}
use Rattle.micro_terms.specs.declared.node.Kind.TheVariants as kinds
use Rattle.micro_terms.specs.declared.node.Node.{Node}
use Rattle.micro_terms.specs.declared.node.Node.TheVariants.{Free, Sum, Other}
use Rattle.micro_terms.specs.declared.nodes.Nodes.{Nodes}

abbrev pub word_of_kind : Environment → Kind → ℕ
word_of_kind e (kinds.And left right) = bit_and (e.word left) (e.word right)
word_of_kind e (kinds.Half x) = half (e.word x)
word_of_kind e (kinds.Word at) = slice_index e.start.words (e.word at)
word_of_kind e (kinds.Byte at) = byte_in e.start.words (e.word at)
word_of_kind e (kinds.SignedByte at) = signed_byte (byte_in e.start.words (e.word at))
word_of_kind e (kinds.Input before) = next_byte (drop before e.start.untaken)
word_of_kind e (kinds.Quarter x) = e.word x / 4
word_of_kind e (kinds.Piece x at) = byte_of (e.word x) (e.word at % 4)
word_of_kind e (kinds.SignedPiece x at) = signed_byte (byte_of (e.word x) (e.word at % 4))
word_of_kind e (kinds.Choice left right same other) = if e.word left == e.word right then e.word same else e.word other

-- whether a word of this kind is a byte of memory without a sign
abbrev pub is_byte : Kind → Bool
is_byte (kinds.Byte at) = true
is_byte (kinds.Piece x at) = true
is_byte _ = false

-- the node says that its number stands for this word
abbrev pub IsNode : Environment → ℕ → Node → Type 0
IsNode e x Free = Unit {0}
IsNode e x (Sum term) = x ≡ value e.word term
IsNode e x (Other kind) = x ≡ word_of_kind e kind

-- each number stands for a word, and for the one that its node says
pub record Fits (e : Environment) (table : List Node) : Type 0 where
  pub words : (i : ℕ) → e.word i < 4294967296
  pub nodes : (i : ℕ) (node : Node) → slice_get table i ≡ Some node → IsNode e (e.word i) node

-- in each environment that fits the table
abbrev pub Holds : Nodes → (Environment → Type 0) → Type 0
Holds nodes P = (e : Environment) → Fits e nodes.nodes.items → P e

-- what fits the second table fits the first
abbrev pub Grows : Nodes → Nodes → Type 0
Grows old new = (e : Environment) → Fits e new.nodes.items → Fits e old.nodes.items
