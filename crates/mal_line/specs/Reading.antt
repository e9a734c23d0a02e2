-- The reading of a line, token by token. It computes what `Lines` states: `line_from` returns what a line spells, or its first refusal.
use Rattle.std.specs.Prelude.{ℕ, ℤ, Bool, true, false, List, [], ◌∷◌, Option, Some, None, Result, Ok, Err, if◌then◌else◌, ◌==◌, length, take, drop, bit_or, is_some, option_map, option_and_then, ◌≡◌, ◌↔◌}
use Rattle.mal_line.specs.Common.{prefix_len, Machine, Mem, Test, Word, Token}
use Rattle.micro_word.specs.declared.statement.Mem.TheVariants as mems
use Rattle.micro_word.specs.declared.statement.Test.TheVariants as tests
use Rattle.mal_tokens.specs.declared.word.Word.TheVariants as words
use Rattle.mal_tokens.specs.declared.sign.Sign.TheVariants as signs
use Rattle.mal_tokens.specs.declared.token.Token.TheVariants as tokens
use Rattle.mal_line.specs.declared.chain.Assignment.{Assignment}
use Rattle.mal_line.specs.declared.chain.Tail.{Tail}
use Rattle.mal_line.specs.declared.chain.Tail.TheVariants as tails
use Rattle.mal_line.specs.declared.piece.Piece.{Piece}
use Rattle.mal_line.specs.declared.piece.Piece.TheVariants as found
use Rattle.mal_line.specs.declared.next.Next.{Next}
use Rattle.mal_line.specs.declared.next.Next.TheVariants as nexts
use Rattle.mal_line.specs.declared.tree.Tree.{Tree}
use Rattle.mal_line.specs.declared.gathering.PendingIf.{PendingIf}
use Rattle.mal_line.specs.declared.gathering.Gathered.{Gathered}
use Rattle.mal_line.specs.declared.content.Content.{Content}
use Rattle.mal_line.specs.declared.line.Form.{Form}
use Rattle.mal_line.specs.declared.line.Form.TheVariants as forms
use Rattle.mal_line.specs.declared.line.LineFault.{LineFault}
use Rattle.mal_line.specs.declared.line.LineFault.TheVariants as faults
use Rattle.mal_line.specs.Lines.{content_of, names_foreign, IsRefused, SpellsLine}
use Rattle.mal_line.specs.Lookup.{coding_of, is_number}
use Rattle.mal_line.specs.Chains.{bit, is_dest, is_expr}
use Rattle.mal_line.specs.Statements.{is_byte_word, pieces}

-- ---- an assignment

abbrev pub dest_word : Word → Option Word
dest_word w = if is_dest w then Some w else None

-- a destination and its `=`
abbrev pub dest_of : Token → Token → Option Word
dest_of (tokens.Word w) (tokens.Sign signs.Equals) = dest_word w
dest_of _ _ = None

abbrev pub shifting : Token → Token → Option Tail
shifting (tokens.Sign signs.Left) (tokens.Number v) = Some (tails.Left v)
shifting (tokens.Sign signs.Right) (tokens.Number v) = Some (tails.Right v)
shifting _ _ = None

abbrev pub tail_of : List Token → Option Tail
tail_of [] = Some tails.Nothing
tail_of (sign ∷ by ∷ []) = shifting sign by
tail_of _ = None

abbrev pub assigned : Machine → ℕ → List Token → Option Assignment
assigned machine dests ts = if length (take (prefix_len is_expr ts) ts) == 0 then None
    else option_map
    (λ tail. record { dests = dests; operation = coding_of machine (take (prefix_len is_expr ts) ts) tail })
    (tail_of (drop (prefix_len is_expr ts) ts))

abbrev pub last : Machine → Bool → ℕ → List Token → Option Assignment
last machine some dests ts = if some then assigned machine dests ts else None

abbrev pub on_dest : Option Word → (Word → Option Assignment) → Option Assignment → Option Assignment
on_dest None f x = x
on_dest (Some w) f x = f w

-- an assignment, where some destinations were read before
unfoldable pub chain_at : Machine → Bool → ℕ → List Token → Option Assignment
chain_at machine some dests [] = last machine some dests []
chain_at machine some dests (t ∷ []) = last machine some dests (t ∷ [])
chain_at machine some dests (t ∷ u ∷ rest) = on_dest (dest_of t u)
    (λ w. chain_at machine true (bit_or dests (bit w)) rest) (last machine some dests (t ∷ u ∷ rest))

-- ---- what stands between two semicolons

abbrev pub by_offset : ℤ → Option (Next (List ℕ))
by_offset v = if is_number v 256 then Some (nexts.Dispatch true) else None

abbrev pub dispatch : Word → Option (Next (List ℕ)) → Option Piece
dispatch w j = if is_byte_word w then Some (found.Jump j) else None

-- what follows `goto`
abbrev pub goto_of : List Token → Option Piece
goto_of (tokens.Name label ∷ []) = Some (found.Jump (Some (nexts.Goto label)))
goto_of (tokens.Sign signs.Open ∷ tokens.Word w ∷ tokens.Sign signs.Close ∷ []) = dispatch w (Some (nexts.Dispatch false))
goto_of (tokens.Sign signs.Open ∷ tokens.Word w ∷ tokens.Word words.Or ∷ tokens.Number v ∷ tokens.Sign signs.Close ∷ []) = dispatch w (by_offset v)
goto_of _ = None

abbrev pub test_of : Word → Option Test
test_of words.N = Some tests.N
test_of words.Z = Some tests.Z
test_of _ = None

-- what follows `if`
abbrev pub if_of : List Token → Option Piece
if_of (tokens.Sign signs.Open ∷ tokens.Word w ∷ tokens.Sign signs.Close ∷ tokens.Word words.Goto ∷ tokens.Name label ∷ []) =
    option_map (λ test. found.If test label) (test_of w)
if_of _ = None

-- what follows `else`
abbrev pub else_of : List Token → Option Piece
else_of (tokens.Word words.Goto ∷ tokens.Name label ∷ []) = Some (found.Else label)
else_of _ = None

abbrev pub piece_of : Machine → List Token → Option Piece
piece_of machine [] = Some found.Nothing
piece_of machine (tokens.Word words.Rd ∷ []) = Some (found.Mem mems.Read)
piece_of machine (tokens.Word words.Wr ∷ []) = Some (found.Mem mems.Write)
piece_of machine (tokens.Word words.Fetch ∷ []) = Some found.Fetch
piece_of machine (tokens.Word words.Goto ∷ rest) = goto_of rest
piece_of machine (tokens.Word words.If ∷ rest) = if_of rest
piece_of machine (tokens.Word words.Else ∷ rest) = else_of rest
piece_of machine ts = option_map (λ a. found.Assign a) (chain_at machine false 0 ts)

-- ---- the parts together

abbrev pub empty : Tree
empty = record { assignment = None; mem = mems.None; fetch = false; next = None }

abbrev pub gathered_jump : Tree → Option (Next (List ℕ)) → Gathered
gathered_jump tree j = record { tree = record tree { next = Some j }; waiting = None }

abbrev pub is_access : Mem → Bool
is_access mems.None = false
is_access _ = true

-- adds a part where no `if` waits and there is no jump yet
abbrev pub add_free : Tree → Piece → Option Gathered
add_free tree found.Nothing = Some (record { tree = tree; waiting = None })
add_free tree (found.Assign a) = if is_some tree.assignment then None else Some (record { tree = record tree { assignment = Some a }; waiting = None })
add_free tree (found.Mem m) = if is_access tree.mem then None else Some (record { tree = record tree { mem = m }; waiting = None })
add_free tree found.Fetch = if tree.fetch then None else Some (record { tree = record tree { fetch = true }; waiting = None })
add_free tree (found.Jump j) = Some (gathered_jump tree j)
add_free tree (found.If test label) = Some (record { tree = tree; waiting = Some (record { test = test; high = label }) })
add_free tree (found.Else label) = None

-- an `if` waits for its `else`
abbrev pub add_else : Tree → PendingIf → Piece → Option Gathered
add_else tree half (found.Else label) = Some (gathered_jump tree (Some (nexts.Branch half.test half.high label)))
add_else tree half _ = None

-- after a jump all parts are empty
abbrev pub add_after : Tree → Piece → Option Gathered
add_after tree found.Nothing = Some (record { tree = tree; waiting = None })
add_after tree _ = None

abbrev pub add_by : Tree → Option PendingIf → Option (Option (Next (List ℕ))) → Piece → Option Gathered
add_by tree (Some half) next piece = add_else tree half piece
add_by tree None None piece = add_free tree piece
add_by tree None (Some j) piece = add_after tree piece

abbrev pub add : Gathered → Piece → Option Gathered
add gathering piece = add_by gathering.tree gathering.waiting gathering.tree.next piece

abbrev pub add_tokens : Machine → Gathered → List Token → Option Gathered
add_tokens machine gathering ts = option_and_then (add gathering) (piece_of machine ts)

abbrev pub ended : Gathered → Option Tree
ended gathering = if is_some gathering.waiting then None else Some gathering.tree

unfoldable pub adds : Machine → Gathered → List (List Token) → Option Tree
adds machine gathering [] = ended gathering
adds machine gathering (x ∷ xs) = option_and_then (λ t. adds machine t xs) (add_tokens machine gathering x)

abbrev pub tree_of : Machine → List Token → Option Tree
tree_of machine ts = adds machine (record { tree = empty; waiting = None }) (pieces ts)

-- ---- a line

abbrev pub fix_of : List Token → Option Form
fix_of (tokens.Name label ∷ tokens.Number address ∷ []) = Some (forms.Fix label address)
fix_of _ = None

abbrev pub after_colon : List Token → List Token
after_colon (tokens.Sign signs.Colon ∷ rest) = rest
after_colon rest = rest

abbrev pub labelled : Machine → Option (List ℕ) → List Token → Option Form
labelled machine label ts = option_map (λ tree. forms.Statement label tree) (tree_of machine ts)

abbrev pub form_by : Machine → Token → List Token → Option Form
form_by machine (tokens.Sign signs.Label) rest = fix_of rest
form_by machine (tokens.Sign signs.Default) rest = option_map (λ tree. forms.Fallback tree) (tree_of machine rest)
form_by machine (tokens.Name label) rest = labelled machine (Some label) (after_colon rest)
form_by machine first rest = labelled machine None (first ∷ rest)

abbrev pub form_of : Machine → List Token → Option Form
form_of machine [] = Some forms.Nothing
form_of machine (first ∷ rest) = form_by machine first rest

abbrev pub said : Option Content → Result Content LineFault
said None = Err faults.NoSuchOperation
said (Some content) = Ok content

abbrev pub said_by : Machine → List Token → Option Form → Result Content LineFault
said_by machine ts None = Err faults.BadStatement
said_by machine ts (Some form) = if names_foreign machine ts then Err faults.WrongMachine else said (content_of form)

unfoldable pub line_from : Machine → List Token → Result Content LineFault
line_from machine ts = said_by machine ts (form_of machine ts)

-- what is read from a line is what it spells on the machine
abbrev pub LinesReadAsSpelled : Type 0
LinesReadAsSpelled = (machine : Machine) (ts : List Token) (content : Content) → (line_from machine ts ≡ Ok content) ↔ SpellsLine machine ts content

-- a line is refused by the first refusal that it has
abbrev pub LinesRefusedAsFaulty : Type 0
LinesRefusedAsFaulty = (machine : Machine) (ts : List Token) (fault : LineFault) → (line_from machine ts ≡ Err fault) ↔ IsRefused machine ts fault
