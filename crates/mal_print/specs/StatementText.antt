-- The canonical text of a statement and of a line: the tokens that stand in it.
use Rattle.std.specs.Prelude.{ℕ, pos, ◌==◌, ◌&&◌, Bool, true, false, not, List, [], ◌∷◌, ◌++◌, Option, Some, None, if◌then◌else◌, bit_and, option_to_list}
use Rattle.std.specs.List.{filter}
use Rattle.mic_words.specs.declared.machine.Machine.{Machine}
use Rattle.mic_words.specs.declared.machine.Machine.TheVariants.{Mic1, Mic2}
use Rattle.micro_word.specs.declared.statement.AluOp.{AluOp}
use Rattle.micro_word.specs.declared.statement.AluOp.TheVariants as ops
use Rattle.micro_word.specs.declared.statement.Shift.{Shift}
use Rattle.micro_word.specs.declared.statement.Shift.TheVariants as shifts
use Rattle.micro_word.specs.declared.statement.Mem.{Mem}
use Rattle.micro_word.specs.declared.statement.Mem.TheVariants as mems
use Rattle.micro_word.specs.declared.statement.Test.TheVariants as tests
use Rattle.micro_word.specs.declared.statement.Part.{Part}
use Rattle.mal_tokens.specs.Prelude.{IsLabelText}
use Rattle.mal_tokens.specs.declared.word.Word.{Word}
use Rattle.mal_tokens.specs.declared.word.Word.TheVariants as words
use Rattle.mal_tokens.specs.declared.sign.Sign.TheVariants as signs
use Rattle.mal_tokens.specs.declared.token.Token.{Token}
use Rattle.mal_tokens.specs.declared.token.Token.TheVariants as tokens
use Rattle.mal_line.specs.declared.next.Next.{Next}
use Rattle.mal_line.specs.declared.next.Next.TheVariants as nexts
use Rattle.mal_line.specs.Prelude.{side, spelling, tail_with, bit, dest_tokens, tail_tokens, test_word, by_targets, EachTarget}

-- those of these that are there
abbrev pub present : List (Option Token) → List Token
present [] = []
present (o ∷ os) = option_to_list o ++ present os

-- ---- the assignment

-- destinations in this order
abbrev pub all_dests : List Word
all_dests = words.H ∷ words.Opc ∷ words.Tos ∷ words.Cpp ∷ words.Lv ∷ words.Sp ∷ words.Pc ∷ words.Mdr ∷ words.Mar ∷ []

abbrev pub has_dest : ℕ → Word → Bool
has_dest dests w = not (bit_and dests (bit w) == 0)

abbrev pub dests_among : ℕ → List Word → List Word
dests_among dests ws = filter (has_dest dests) ws

abbrev pub dests_of : ℕ → List Word
dests_of dests = dests_among dests all_dests

abbrev pub is_zero : AluOp → Bool
is_zero ops.Zero = true
is_zero _ = false

abbrev pub is_unshifted : Shift → Bool
is_unshifted shifts.None = true
is_unshifted _ = false

-- nothing is computed
abbrev pub is_idle : Part → Bool
is_idle part = is_zero part.op && is_unshifted part.shift

-- the destination of a value that no register takes: N where the statement tests N, and Z otherwise
abbrev pub tested : Next Token → Word
tested (nexts.Branch tests.N high low) = words.N
tested _ = words.Z

abbrev pub heads : List Word → Next Token → List Word
heads [] next = tested next ∷ []
heads (w ∷ ws) next = w ∷ ws

abbrev pub value : Part → List Token
value part = spelling part.op (side part.a) (side part.b) ++ tail_tokens (tail_with part.shift)

abbrev pub chain : Part → Next Token → List Token
chain part next = dest_tokens (heads (dests_of part.dests) next) ++ value part

abbrev pub is_nothing : List Word → Bool
is_nothing [] = true
is_nothing (w ∷ ws) = false

-- nothing is computed, and nothing assigned
abbrev pub is_absent : Part → Bool
is_absent part = is_nothing (dests_of part.dests) && is_idle part

abbrev pub assignment : Part → Next Token → List Token
assignment part next = if is_absent part then [] else chain part next

-- ---- the other parts

abbrev pub memory : Mem → List Token
memory mems.None = []
memory mems.Read = tokens.Word words.Rd ∷ []
memory mems.Write = tokens.Word words.Wr ∷ []

abbrev pub fetches : Bool → List Token
fetches false = []
fetches true = tokens.Word words.Fetch ∷ []

abbrev pub byte_word : Machine → Word
byte_word Mic1 = words.Mbr
byte_word Mic2 = words.Mbr1

abbrev pub leads : Machine → Next Token → List Token
leads machine nexts.Following = []
leads machine (nexts.Goto to) = tokens.Word words.Goto ∷ to ∷ []
leads machine (nexts.Dispatch false) = tokens.Word words.Goto ∷ tokens.Sign signs.Open ∷ tokens.Word (byte_word machine) ∷ tokens.Sign signs.Close ∷ []
leads machine (nexts.Dispatch true) = tokens.Word words.Goto ∷ tokens.Sign signs.Open ∷ tokens.Word (byte_word machine)
    ∷ tokens.Word words.Or ∷ tokens.Number (pos 256) ∷ tokens.Sign signs.Close ∷ []
leads machine (nexts.Branch test high low) = tokens.Word words.If ∷ tokens.Sign signs.Open ∷ tokens.Word (test_word test) ∷ tokens.Sign signs.Close
    ∷ tokens.Word words.Goto ∷ high ∷ tokens.Sign signs.Semicolon ∷ tokens.Word words.Else ∷ tokens.Word words.Goto ∷ low ∷ []

-- ---- all parts

-- parts and others after them, with a semicolon between them where there are both
abbrev pub beside : List Token → List Token → List Token
beside [] ys = ys
beside (x ∷ xs) [] = x ∷ xs
beside (x ∷ xs) (y ∷ ys) = (x ∷ xs) ++ tokens.Sign signs.Semicolon ∷ y ∷ ys

-- the assignment, rd or wr, fetch, and where it goes next
abbrev pub parts : Machine → Part → Next Token → List Token
parts machine part next = beside (beside (beside (assignment part next) (memory part.mem)) (fetches part.fetch)) (leads machine next)

-- ---- lines

-- where a statement goes next, with labels as targets
abbrev pub labelled : Next (List ℕ) → Next Token
labelled next = by_targets (λ label. tokens.Name label) next

-- `;` where there is nothing
abbrev pub or_semicolon : List Token → List Token
or_semicolon [] = tokens.Sign signs.Semicolon ∷ []
or_semicolon (t ∷ ts) = t ∷ ts

-- a statement: its label and its parts
abbrev pub statement : Machine → Option (List ℕ) → Part → Next Token → List Token
statement machine None part next = or_semicolon (parts machine part next)
statement machine (Some label) part next = tokens.Name label ∷ parts machine part next

-- what unused words hold
abbrev pub fallback : Machine → Part → Next Token → List Token
fallback machine part next = tokens.Sign signs.Default ∷ parts machine part next

-- a label and its address
abbrev pub fix : List ℕ → ℕ → List Token
fix label address = tokens.Sign signs.Label ∷ tokens.Name label ∷ tokens.Number (pos address) ∷ []

-- ---- labels that may stand in a text, and texts that are one line

-- no newline, no carriage return and no slash
abbrev pub is_plain : ℕ → Bool
is_plain b = not (b == 10) && (not (b == 13) && not (b == 47))

abbrev pub HasLabels : Next (List ℕ) → Type 0
HasLabels next = EachTarget IsLabelText next
