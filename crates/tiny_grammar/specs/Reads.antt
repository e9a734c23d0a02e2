-- What holds of a function that reads a part from the front of the tokens.
use Rattle.std.specs.Prelude.{◌≡◌, ℕ, ◌+◌, Bool, true, false, List, [], ◌∷◌, ◌++◌, length, map, None, Some, Err}
use Rattle.tiny_grammar.specs.Common.{Token, Sign, Statement, Word, Operator, Comparison}
use Rattle.tiny_draft.specs.declared.token.Kind.TheVariants as kinds
use Rattle.tiny_draft.specs.declared.token.Sign.TheVariants as signs
use Rattle.tiny_draft.specs.Prelude.{statement_tree}
use Rattle.tiny_grammar.specs.Tokens.{first_kind}
use Rattle.tiny_grammar.specs.declared.refusal.Refusal.{Refusal}
use Rattle.tiny_grammar.specs.declared.refusal.Refusal.TheVariants as refusals
use Rattle.tiny_grammar.specs.Grammar.{kept, spell_statement, word}
use Rattle.tiny_grammar.specs.Machine.{Part, AfterName, comparison_of, is_sign, operator_of, walk}

abbrev pub is_memory : Refusal → Bool
is_memory refusals.OutOfMemory = true
is_memory _ = false

-- from these parts to those, over a text that is spelled so
pub record Moves (levels : ℕ) (from : List Part) (ts : List Token) (text : List Token) (levels' : ℕ) (to : List Part) (rest : List Token) : Type 0 where
  pub spelled : map kept ts ≡ text ++ map kept rest
  pub goes : (ps : List Part) → walk levels (from ++ ps) ts ≡ walk levels' (to ++ ps) rest
  pub long : length ts ≡ length text + length rest

-- the parts are refused
abbrev pub Stops : ℕ → List Part → List Token → Refusal → Type 0
Stops levels from ts e = (ps : List Part) → walk levels (from ++ ps) ts ≡ Err e

abbrev pub StopsBy : ℕ → List Part → List Token → Refusal → Type 0
StopsBy levels from ts e = is_memory e ≡ false → Stops levels from ts e

-- the parts are read
abbrev pub ReadsAll : ℕ → List Part → List Token → List Token → List Token → Type 0
ReadsAll levels parts ts text rest = Moves levels parts ts text levels [] rest

abbrev pub Reads : ℕ → Part → List Token → List Token → List Token → Type 0
Reads levels part ts text rest = ReadsAll levels (part ∷ []) ts text rest

-- an optional part is absent
abbrev pub Skips : ℕ → Part → List Token → Type 0
Skips levels part ts = (ps : List Part) → walk levels (part ∷ ps) ts ≡ walk levels ps ts

-- the sign comes first, and the rest after it
pub record Sees (s : Sign) (ts rest : List Token) : Type 0 where
  pub token : Token
  pub split : ts ≡ token ∷ rest
  pub is : token.kind ≡ kinds.Of s

-- the name comes first, with its line, and the rest after it
pub record NameAt (w : Word) (ts rest : List Token) : Type 0 where
  pub token : Token
  pub split : ts ≡ token ∷ rest
  pub is : token.kind ≡ kinds.Name w.name
  pub line : token.line ≡ w.line

-- the number comes first, and the rest after it
pub record NumberAt (n : ℕ) (ts rest : List Token) : Type 0 where
  pub token : Token
  pub split : ts ≡ token ∷ rest
  pub is : token.kind ≡ kinds.Number n

-- the operator comes first, and the rest after it
pub record OperatorAt (o : Operator) (ts rest : List Token) : Type 0 where
  pub token : Token
  pub split : ts ≡ token ∷ rest
  pub is : operator_of token.kind ≡ Some o

-- the comparison comes first, and the rest after it
pub record ComparisonAt (c : Comparison) (ts rest : List Token) : Type 0 where
  pub token : Token
  pub split : ts ≡ token ∷ rest
  pub is : comparison_of token.kind ≡ Some c

-- neither `if` nor `while` comes first
pub record HoldsNoBlock (ts : List Token) : Type 0 where
  pub no_while : is_sign signs.While (first_kind ts) ≡ None
  pub no_if : is_sign signs.If (first_kind ts) ≡ None

-- the statement begins with the name, and these tokens spell the rest of it
pub record Says (levels : ℕ) (w : Word) (s : Statement) (ts rest : List Token) : Type 0 where
  pub text : List Token
  pub is : spell_statement (statement_tree s) ≡ word w ∷ text
  pub reads : Reads levels AfterName ts text rest
