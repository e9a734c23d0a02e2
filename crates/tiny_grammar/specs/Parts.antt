-- Which part of a program is read from the front of the tokens, and what is after it.
use Rattle.std.specs.Prelude.{◌≡◌, ℕ, ◌+◌, List, [], ◌∷◌, ◌++◌, map, Option, None, MatchOption}
use Rattle.tiny_grammar.specs.Common.{Bor, Sign, Token, Expr, Statement, Term}
use Rattle.tiny_draft.specs.declared.token.Sign.TheVariants as signs
use Rattle.tiny_draft.specs.Tree as tree
use Rattle.tiny_draft.specs.Prelude.{arguments_of, expr_tree, statement_tree, term_tree}
use Rattle.tiny_grammar.specs.Grammar.{SpellsProgram, end, sign, spell_arguments, spell_expr, spell_statement, spell_term}
use Rattle.tiny_grammar.specs.Machine.{Part, Arguments, AStatement, ATerm, MaybeCall, Want, is_sign, value}
use Rattle.tiny_grammar.specs.Reads.{Moves, Reads}
use Rattle.tiny_grammar.specs.Refusals.{IsShallow}
use Rattle.tiny_grammar.specs.Tokens.{first_kind}

-- the first token is another one
abbrev pub Lacks : Sign → List Token → Type 0
Lacks s ts = is_sign s (first_kind ts) ≡ None

-- nothing is read where the part is absent, else the part is read, with these tokens after it
abbrev pub MayRead : {A : Type 0} → Type 0 → (A → List Token → Type 0) → Option (A × Bor (List Token)) → Type 0
MayRead Absent ReadsPart found = MatchOption found Absent (λ p. ReadsPart p.0 p.1.now)

-- a value that is assigned, with the sign before it and the semicolon after it
abbrev pub assigned : List Part
assigned = Want signs.Assign ∷ value

abbrev pub spell_assigned : Expr → List Token
spell_assigned e = sign signs.Assign ∷ (spell_expr (expr_tree e) ++ end)

abbrev pub ReadsTerm : ℕ → List Token → Term → List Token → Type 0
ReadsTerm levels ts t rest = Reads levels ATerm ts (spell_term (term_tree t)) rest

abbrev pub ReadsStatement : ℕ → List Token → Statement → List Token → Type 0
ReadsStatement levels ts s rest = Reads levels AStatement ts (spell_statement (statement_tree s)) rest

-- the arguments of a call, with both parentheses
abbrev pub ReadsCall : ℕ → List Token → List Expr → List Token → Type 0
ReadsCall levels ts es rest = Reads levels MaybeCall ts (sign signs.Open ∷ spell_arguments (arguments_of (map expr_tree es))) rest

-- the arguments with the closing parenthesis, which leaves one more level
abbrev pub ReadsArguments : ℕ → List Token → List Expr → List Token → Type 0
ReadsArguments levels ts es rest = Moves levels (Arguments ∷ []) ts (spell_arguments (arguments_of (map expr_tree es))) (levels + 1) [] rest

-- the tokens spell a program, and open at most this many levels at once
abbrev pub AreProgram : ℕ → List Token → Type 0
AreProgram levels ts = (p : List tree.Function) × SpellsProgram ts p × IsShallow levels ts
