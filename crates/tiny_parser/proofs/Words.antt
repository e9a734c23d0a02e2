-- Numbers that are words.
use Rattle.std.proofs.Common.{◌≡◌, ℕ, ℤ, pos, negsuc, zero, suc, ◌+◌, ◌<◌, ◌≤◌, ◌^◌, Bool, true, false, [], ◌∷◌, ◌++◌, List, map, refl, sym, subst, arith}
use Rattle.std.specs.Prelude.{Some, None, Result, Ok, Err, if◌then◌else◌, nat_le, slice_get}
use Rattle.mic_base.specs.Prelude.{number_of}
use Rattle.mic_base.specs.declared.number.NumberError.{NumberError}
use Rattle.source_text.specs.Prelude.{contents}
use Rattle.tiny_lexemes.specs.declared.lexeme.Lexeme.{Lexeme}
use Rattle.tiny_lexemes.specs.declared.lexeme.Lexeme.TheVariants as lexemes
use Rattle.tiny_lexemes.specs.Prelude.{IsLexeme, SpellsLexemes, value_by, number_value}
use Rattle.tiny_tokens.specs.Prelude.{HasTokens, SpellsLines, kind_of, main_only, number_all}
use Rattle.tiny_draft.specs.declared.token.Kind.{Kind}
use Rattle.tiny_draft.specs.declared.token.Kind.TheVariants as kinds
use Rattle.tiny_draft.specs.declared.token.Sign.TheVariants as signs
use Rattle.tiny_draft.specs.declared.token.Token.{Token}
use Rattle.tiny_grammar.specs.Prelude.{comparison, kept, sign, spell_arguments, spell_block, spell_cond, spell_else, spell_expr, spell_function, spell_functions, spell_more, spell_parameters, spell_statement, spell_statements, spell_steps, spell_term}
use Rattle.tiny_parser.specs.Prelude.{IsWritten}
use Rattle.tiny_draft.specs.Tree as draft

abbrev mutual
  pub WordsTerm : draft.Term → Type 0
  WordsTerm (draft.Number n) = n < 2 ^ 32
  WordsTerm (draft.Variable w) = Unit {0}
  WordsTerm (draft.Called w es) = WordsArguments es
  WordsTerm draft.Get = Unit {0}
  WordsTerm (draft.Group e) = WordsExpr e

  pub WordsExpr : draft.Expr → Type 0
  WordsExpr (draft.Sum t ss) = WordsTerm t × WordsSteps ss

  pub WordsSteps : draft.Steps → Type 0
  WordsSteps draft.no_steps = Unit {0}
  WordsSteps (draft.step o t ss) = WordsTerm t × WordsSteps ss

  pub WordsArguments : draft.Arguments → Type 0
  WordsArguments draft.no_arguments = Unit {0}
  WordsArguments (draft.argument e es) = WordsExpr e × WordsArguments es

abbrev pub WordsCond : draft.Cond → Type 0
WordsCond (draft.Compare c a b) = WordsExpr a × WordsExpr b

abbrev mutual
  pub WordsStatement : draft.Statement → Type 0
  WordsStatement (draft.Var w e) = WordsExpr e
  WordsStatement (draft.Assign w e) = WordsExpr e
  WordsStatement (draft.Calls w es) = WordsArguments es
  WordsStatement (draft.If l c b other) = WordsCond c × WordsStatements b × WordsElse other
  WordsStatement (draft.While l c b) = WordsCond c × WordsStatements b
  WordsStatement (draft.Return l e) = WordsExpr e
  WordsStatement (draft.Put e) = WordsExpr e
  WordsStatement draft.Halt = Unit {0}

  pub WordsStatements : draft.Statements → Type 0
  WordsStatements draft.no_statements = Unit {0}
  WordsStatements (draft.statement s ss) = WordsStatement s × WordsStatements ss

  pub WordsElse : draft.Else → Type 0
  WordsElse draft.no_else = Unit {0}
  WordsElse (draft.else_block b) = WordsStatements b

-- ---- tokens

abbrev IsWord : Kind → Type 0
IsWord (kinds.Number n) = n < 2 ^ 32
IsWord _ = Unit {0}

abbrev AreWords : List Token → Type 0
AreWords [] = Unit {0}
AreWords (t ∷ ts) = IsWord t.kind × AreWords ts

abbrev IsWordLexeme : Lexeme → Type 0
IsWordLexeme (lexemes.Number n) = n < 2 ^ 32
IsWordLexeme _ = Unit {0}

abbrev AreWordLexemes : List (Lexeme × ℕ) → Type 0
AreWordLexemes [] = Unit {0}
AreWordLexemes (t ∷ ts) = IsWordLexeme t.0 × AreWordLexemes ts

kind_word : (names : List (List ℕ)) (x : Lexeme) → IsWordLexeme x → IsWord (kind_of names x).0
kind_word names (lexemes.Number v) w = w
kind_word names _ w = tt

numbered_words : (names : List (List ℕ)) (ts : List (Lexeme × ℕ)) → AreWordLexemes ts → AreWords (number_all names ts)
numbered_words names [] w = tt
numbered_words names (t ∷ ts) w = (kind_word names t.0 w.0, numbered_words (kind_of names t.0).1 ts w.1)

small : (b : Bool) (n v : ℕ) → nat_le n 0xFFFF_FFFF ≡ b → (if b then Some n else None) ≡ Some v → v < 2 ^ 32
small true n v e h = let same : n ≡ v = cc in let le : n ≤ 0xFFFF_FFFF = at_most n e in omega arith
  where
    at_most : (m : ℕ) → nat_le m 0xFFFF_FFFF ≡ true → m ≤ 0xFFFF_FFFF
    at_most m f = grind arith
small false n v e h = absurd (cc)

value_word : (r : Result ℤ NumberError) (v : ℕ) → value_by r ≡ Some v → v < 2 ^ 32
value_word (Ok (pos n)) v h = small (nat_le n 0xFFFF_FFFF) n v refl h
value_word (Ok (negsuc n)) v h = absurd (cc)
value_word (Err e) v h = absurd (cc)

lexeme_word : (x : Lexeme) (text : List ℕ) → IsLexeme x text → IsWordLexeme x
lexeme_word (lexemes.Number v) text h = value_word (number_of text) v (number_value v text h)
lexeme_word _ text h = tt

line_words : (k : ℕ) (line : List ℕ) (here : List Lexeme) (later : List (Lexeme × ℕ)) → SpellsLexemes line here → AreWordLexemes later
    → AreWordLexemes (map (λ x. (x, k)) here ++ later)
line_words k line [] later h w = w
line_words k line (x ∷ here) later (gap, text, rest, split, blank, is, ends, more) w = (lexeme_word x text is, line_words k rest here later more w)

lines_words : (k : ℕ) (ls : List (List ℕ)) (ts : List (Lexeme × ℕ)) → SpellsLines k ls ts → AreWordLexemes ts
lines_words k [] ts h = subst AreWordLexemes (sym h) tt
lines_words k (l ∷ ls) ts (here, later, split, spelled, rest) =
    subst AreWordLexemes (sym split) (line_words k l here later spelled (lines_words (k + 1) ls later rest))

tokens_words : (text : List ℕ) (tokens : List Token) → HasTokens text tokens → AreWords tokens
tokens_words text tokens (ts, spells, is) = subst AreWords (sym is) (numbered_words main_only ts (lines_words 1 (contents text) ts spells))

kept_words : (ts : List Token) → AreWords ts → AreWords (map kept ts)
kept_words [] w = tt
kept_words (t ∷ ts) w = (w.0, kept_words ts w.1)

-- ---- trees

halves : (a b : List Token) → AreWords (a ++ b) → AreWords a × AreWords b
halves [] b w = (tt, w)
halves (t ∷ a) b w = let later = halves a b w.1 in ((w.0, later.0), later.1)

mutual
  term_words : (t : draft.Term) → AreWords (spell_term t) → WordsTerm t
  term_words (draft.Number n) w = w.0
  term_words (draft.Variable v) w = tt
  term_words (draft.Called v es) w = arguments_words es w.1.1
  term_words draft.Get w = tt
  term_words (draft.Group e) w = expr_words e (halves _ _ w.1).0

  expr_words : (e : draft.Expr) → AreWords (spell_expr e) → WordsExpr e
  expr_words (draft.Sum t ss) w = (term_words t (halves _ _ w).0, steps_words ss (halves _ _ w).1)

  steps_words : (ss : draft.Steps) → AreWords (spell_steps ss) → WordsSteps ss
  steps_words draft.no_steps w = tt
  steps_words (draft.step o t ss) w = (term_words t (halves _ _ w.1).0, steps_words ss (halves _ _ w.1).1)

  arguments_words : (es : draft.Arguments) → AreWords (spell_arguments es) → WordsArguments es
  arguments_words draft.no_arguments w = tt
  arguments_words (draft.argument e es) w = (expr_words e (halves _ _ w).0, more_words es (halves _ _ w).1)

  more_words : (es : draft.Arguments) → AreWords (spell_more es) → WordsArguments es
  more_words draft.no_arguments w = tt
  more_words (draft.argument e es) w = (expr_words e (halves _ _ w.1).0, more_words es (halves _ _ w.1).1)

cond_words : (c : draft.Cond) → AreWords (spell_cond c) → WordsCond c
cond_words (draft.Compare c a b) w = (expr_words a (halves _ _ w).0, expr_words b (halves (spell_expr a) (comparison c ∷ spell_expr b) w).1.1)

abbrev closed : draft.Statements → List Token
closed b = spell_statements b ++ (sign signs.End ∷ [])

mutual
  statement_words : (s : draft.Statement) → AreWords (spell_statement s) → WordsStatement s
  statement_words (draft.Var v e) w = expr_words e (halves _ _ w.1.1.1).0
  statement_words (draft.Assign v e) w = expr_words e (halves _ _ w.1.1).0
  statement_words (draft.Calls v es) w = arguments_words es (halves _ _ w.1.1).0
  statement_words (draft.If l c b other) w =
      let later = (halves (spell_cond c) ((sign signs.Begin ∷ closed b) ++ spell_else other) w.1).1 in (
        cond_words c (halves _ _ w.1).0,
        statements_words b (halves (spell_statements b) (sign signs.End ∷ []) (halves (sign signs.Begin ∷ closed b) (spell_else other) later).0.1).0,
        else_words other (halves (sign signs.Begin ∷ closed b) (spell_else other) later).1,
      )
  statement_words (draft.While l c b) w = (
    cond_words c (halves _ _ w.1).0,
    statements_words b (halves (spell_statements b) (sign signs.End ∷ []) (halves (spell_cond c) (sign signs.Begin ∷ closed b) w.1).1.1).0,
  )
  statement_words (draft.Return l e) w = expr_words e (halves _ _ w.1).0
  statement_words (draft.Put e) w = expr_words e (halves _ _ w.1).0
  statement_words draft.Halt w = tt

  statements_words : (ss : draft.Statements) → AreWords (spell_statements ss) → WordsStatements ss
  statements_words draft.no_statements w = tt
  statements_words (draft.statement s ss) w = (statement_words s (halves _ _ w).0, statements_words ss (halves _ _ w).1)

  else_words : (other : draft.Else) → AreWords (spell_else other) → WordsElse other
  else_words draft.no_else w = tt
  else_words (draft.else_block b) w = statements_words b (halves (spell_statements b) (sign signs.End ∷ []) w.1.1).0

function_words : (f : draft.Function) → AreWords (spell_function f) → WordsStatements f.body
function_words f w =
    statements_words f.body
    (halves (spell_statements f.body) (sign signs.End ∷ []) (halves (spell_parameters f.parameters) (spell_block f.body) w.1.1.1).1.1).0

functions_words : (fs : List draft.Function) → AreWords (spell_functions fs) → (i : ℕ) (f : draft.Function) → slice_get fs i ≡ Some f → WordsStatements f.body
functions_words [] w i f is = absurd (cc)
functions_words (g ∷ fs) w zero f is =
    let same : g ≡ f = cc in
    subst (λ (x : draft.Function). WordsStatements x.body) same (function_words g (halves (spell_function g) (spell_functions fs) w).0)
functions_words (g ∷ fs) w (suc i) f is = functions_words fs (halves (spell_function g) (spell_functions fs) w).1 i f is

-- the numbers of a text are words
pub written_words : (text : List ℕ) (fs : List draft.Function) → IsWritten text fs → (i : ℕ) (f : draft.Function) → slice_get fs i ≡ Some f → WordsStatements f.body
written_words text fs x = functions_words fs (subst AreWords x.spells (kept_words x.tokens (tokens_words text x.tokens x.has)))
