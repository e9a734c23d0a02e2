-- The canonical text of a program: the fixed addresses, what unused words hold, and the statements, each on a line of its own.
use Rattle.std.specs.Prelude.{ℕ, pos, ◌+◌, length, List, [], ◌∷◌, ◌++◌, map, slice_get, Option, unwrap_or, option_map, option_and_then, option_to_list}
use Rattle.mal_parser.specs.Common.{filter_map, Machine, Placed, PlacedNext, Token, Next, by_targets, printed, fallback, fix, or_semicolon, parts, statement}
use Rattle.micro_word.specs.declared.statement.PlacedNext.TheVariants as placed
use Rattle.mal_tokens.specs.declared.token.Token.TheVariants as tokens
use Rattle.mal_line.specs.declared.next.Next.TheVariants as nexts
use Rattle.mal_parser.specs.declared.statement.Statement.{Statement}
use Rattle.mal_parser.specs.Program.{label_at, MalView}

-- ---- where a statement goes next

-- a target by its label
abbrev pub by_label : List Statement → ℕ → Token
by_label ss to = tokens.Name (unwrap_or (label_at ss to) [])

abbrev pub by_labels : List Statement → Next ℕ → Next Token
by_labels ss next = by_targets (by_label ss) next

abbrev pub next_by_labels : MalView → Statement → Next Token
next_by_labels p s = by_labels p.statements s.next

-- the next statements of a placed one, by their addresses
abbrev pub by_addresses : PlacedNext → Next Token
by_addresses (placed.Goto to) = nexts.Goto (tokens.Number (pos to))
by_addresses (placed.Dispatch high) = nexts.Dispatch high
by_addresses (placed.Branch test low) = nexts.Branch test (tokens.Number (pos (low + 256))) (tokens.Number (pos low))

-- ---- the texts of one statement

-- the parts of a statement, `;` where it has none
abbrev pub parts_of : MalView → Statement → List ℕ
parts_of p s = printed (or_semicolon (parts p.machine s.part (next_by_labels p s)))

-- the label and the parts of a statement
abbrev pub labelled_line : MalView → Statement → List ℕ
labelled_line p s = printed (statement p.machine s.label s.part (next_by_labels p s))

-- the parts, or the label and the parts, of the statement with this number
abbrev pub parts_text : MalView → ℕ → List ℕ
parts_text p s = unwrap_or (option_map (parts_of p) (slice_get p.statements s)) []

abbrev pub statement_text : MalView → ℕ → List ℕ
statement_text p s = unwrap_or (option_map (labelled_line p) (slice_get p.statements s)) []

-- the parts of what unused words hold
abbrev pub fallback_of : MalView → Statement → List ℕ
fallback_of p s = printed (parts p.machine s.part (next_by_labels p s))

abbrev pub fallback_text : MalView → List ℕ
fallback_text p = unwrap_or (option_map (fallback_of p) p.fallback) []

-- the parts of a placed statement, with targets as `0xAAA`
abbrev pub placed_text : Machine → Placed → List ℕ
placed_text machine p = printed (parts machine p.part (by_addresses p.next))

-- ---- the text of a program

-- `.label NAME 0xAAA`, where the address of a statement is fixed
abbrev pub fix_line : Statement → Option (List ℕ)
fix_line s = option_and_then (λ label. option_map (λ address. printed (fix label address)) s.fixed) s.label

-- `.default PARTS`
abbrev pub default_line : MalView → Statement → List ℕ
default_line p s = printed (fallback p.machine s.part (next_by_labels p s))

-- the `.label` line of the statement with this number, where it has one
abbrev pub fix_lines_at : MalView → ℕ → List (List ℕ)
fix_lines_at p s = option_to_list (option_and_then fix_line (slice_get p.statements s))

abbrev pub fix_lines : MalView → List (List ℕ)
fix_lines p = filter_map fix_line p.statements

-- the `.default` line, where there is one
abbrev pub default_lines : MalView → List (List ℕ)
default_lines p = option_to_list (option_map (default_line p) p.fallback)

abbrev pub statement_lines : MalView → List (List ℕ)
statement_lines p = map (labelled_line p) p.statements

abbrev pub canonical_lines : MalView → List (List ℕ)
canonical_lines p = fix_lines p ++ (default_lines p ++ statement_lines p)

-- each line with a newline after it
abbrev pub text_of : List (List ℕ) → List ℕ
text_of [] = []
text_of (l ∷ ls) = l ++ 10 ∷ text_of ls

abbrev pub canonical_text : MalView → List ℕ
canonical_text p = text_of (canonical_lines p)

-- ---- line numbers

abbrev pub on_line : ℕ → Statement → Statement
on_line k s = record s { line = k }

-- on lines from this one on
abbrev pub on_lines : ℕ → List Statement → List Statement
on_lines k [] = []
on_lines k (s ∷ ss) = on_line k s ∷ on_lines (k + 1) ss

abbrev pub fix_count : MalView → ℕ
fix_count p = length (filter_map fix_line p.statements)

-- the program with the line numbers that its canonical text gives it
abbrev pub relined : MalView → MalView
relined p = record {
  machine = p.machine;
  statements = on_lines (1 + fix_count p + length (option_to_list p.fallback)) p.statements;
  fallback = option_map (on_line (1 + fix_count p)) p.fallback;
  entry = p.entry;
}
