-- Assignments `D=D=E`: which tokens they are.
use Rattle.std.specs.Prelude.{◌≡◌, ◌↔◌, ◌<◌, ℕ, Bool, true, false, List, [], ◌∷◌, ◌++◌, Option, Some, None, is_some, bit_or, fold, ◌==◌, length, Contains, IsTrue}
use Rattle.mal_line.specs.Common.{option_map_or, list_all, Machine, Destination, loads, register_bit, Word, Token}
use Rattle.micro_word.specs.declared.destination.Destination.TheVariants as registers
use Rattle.mal_tokens.specs.declared.word.Word.TheVariants as words
use Rattle.mal_tokens.specs.declared.sign.Sign.TheVariants as signs
use Rattle.mal_tokens.specs.declared.token.Token.TheVariants as tokens
use Rattle.mal_line.specs.declared.operation.Operation.{Operation}
use Rattle.mal_line.specs.declared.chain.Assignment.{Assignment}
use Rattle.mal_line.specs.declared.chain.Tail.{Tail}
use Rattle.mal_line.specs.declared.chain.Tail.TheVariants as tails
use Rattle.mal_line.specs.Expressions.{IsCoded}

-- the word of each register that C loads
abbrev pub register_word : Destination → Word
register_word registers.H = words.H
register_word registers.Opc = words.Opc
register_word registers.Tos = words.Tos
register_word registers.Cpp = words.Cpp
register_word registers.Lv = words.Lv
register_word registers.Sp = words.Sp
register_word registers.Pc = words.Pc
register_word registers.Mdr = words.Mdr
register_word registers.Mar = words.Mar

-- the register of a word
abbrev pub register_of : Word → Option Destination
register_of words.H = Some registers.H
register_of words.Opc = Some registers.Opc
register_of words.Tos = Some registers.Tos
register_of words.Cpp = Some registers.Cpp
register_of words.Lv = Some registers.Lv
register_of words.Sp = Some registers.Sp
register_of words.Pc = Some registers.Pc
register_of words.Mdr = Some registers.Mdr
register_of words.Mar = Some registers.Mar
register_of _ = None

-- the bit of C of a register's word; other words have none
abbrev pub bit : Word → ℕ
bit word = option_map_or register_bit (register_of word) 0

-- a destination: a register that C loads; or N or Z, which assign nothing
abbrev pub is_dest : Word → Bool
is_dest words.N = true
is_dest words.Z = true
is_dest word = is_some (register_of word)

-- a register word, AND, OR or NOT
abbrev pub is_expr_word : Word → Bool
is_expr_word words.N = false
is_expr_word words.Z = false
is_expr_word words.Rd = false
is_expr_word words.Wr = false
is_expr_word words.Fetch = false
is_expr_word words.Goto = false
is_expr_word words.If = false
is_expr_word words.Else = false
is_expr_word _ = true

-- a token of an expression
abbrev pub is_expr : Token → Bool
is_expr (tokens.Word w) = is_expr_word w
is_expr (tokens.Sign signs.Plus) = true
is_expr (tokens.Sign signs.Minus) = true
is_expr (tokens.Sign _) = false
is_expr (tokens.Name n) = false
is_expr (tokens.Number v) = true

-- nothing, or `<<` or `>>` and a number
abbrev pub tail_tokens : Tail → List Token
tail_tokens tails.Nothing = []
tail_tokens (tails.Left v) = tokens.Sign signs.Left ∷ tokens.Number v ∷ []
tail_tokens (tails.Right v) = tokens.Sign signs.Right ∷ tokens.Number v ∷ []

abbrev pub dest_tokens : List Word → List Token
dest_tokens [] = []
dest_tokens (d ∷ ds) = tokens.Word d ∷ tokens.Sign signs.Equals ∷ dest_tokens ds

abbrev pub is_filled : List Word → Bool
is_filled [] = false
is_filled (d ∷ ds) = true

-- the bits of all destinations; one that is named twice has its bit once
abbrev pub dest_bits : ℕ → List Word → ℕ
dest_bits = fold (λ bits d. bit_or bits (bit d))

-- C loads the registers that are named, and no other
pub record LoadsNamed (c : ℕ) (dests : List Word) : Type 0 where
  pub within : c < 512
  pub each : (register : Destination) → IsTrue (loads c register) ↔ Contains dests (register_word register)

-- the coding of an expression and its tail; None where it has none
abbrev pub HasCoding : Machine → List Token → Tail → Option Operation → Type 0
HasCoding machine body tail (Some o) = IsCoded machine body tail o
HasCoding machine body tail None = (o : Operation) → IsCoded machine body tail o → ⊥

-- the tokens are this assignment: one destination at least, each with its `=`, then an expression, then its tail
pub record IsAssignment (machine : Machine) (ts : List Token) (a : Assignment) : Type 0 where
  pub dests : List Word
  pub body : List Token
  pub tail : Tail
  pub are : list_all is_dest dests ≡ true
  pub some : is_filled dests ≡ true
  pub expr : list_all is_expr body ≡ true
  pub not_empty : (length body == 0) ≡ false
  pub spelled : ts ≡ dest_tokens dests ++ (body ++ tail_tokens tail)
  pub bits : a.dests ≡ dest_bits 0 dests
  pub coded : HasCoding machine body tail a.operation
