-- The grammar read token by token: which parts are still to come. It is a tool of the proofs; the laws of `Refusals` and `Grammar` show that it is right.
use Rattle.std.specs.Prelude.{ℕ, ◌+◌, ◌-◌, ◌==◌, ◌&&◌, Bool, true, false, List, [], ◌∷◌, ◌++◌, Option, Some, None, Result, Ok, Err, if◌then◌else◌, option_map}
use Rattle.tiny_grammar.specs.Common.{Operator, Comparison, Kind, Sign, Token}
use Rattle.tiny_tree.specs.declared.tree.Operator.TheVariants as operators
use Rattle.tiny_draft.specs.declared.tree.Comparison.TheVariants as comparisons
use Rattle.tiny_draft.specs.declared.token.Kind.TheVariants as kinds
use Rattle.tiny_draft.specs.declared.token.Sign.TheVariants as signs
use Rattle.tiny_grammar.specs.declared.refusal.Refusal.{Refusal}
use Rattle.tiny_grammar.specs.declared.refusal.Refusal.TheVariants as refusals
use Rattle.tiny_grammar.specs.Refusals.{Turn, Stays, Opens, Closes, turn}
use Rattle.tiny_grammar.specs.Tokens.{rank}

pub data Part : Type 0 where
  -- this sign
  Want : Sign → Part
  AName : Part
  ATerm : Part
  AnExpr : Part
  -- further terms, if any
  Steps : Part
  -- the arguments of a call, if any
  MaybeCall : Part
  -- after the opening parenthesis, and after an argument
  Arguments : Part
  MoreArguments : Part
  ACond : Part
  -- after the left side of a condition
  Compare : Part
  AStatement : Part
  -- after the name that begins a statement
  AfterName : Part
  MaybeElse : Part
  -- further statements, if any
  Statements : Part
  ABlock : Part
  -- after the opening parenthesis, and after a parameter
  Parameters : Part
  MoreParameters : Part
  -- further functions, if any
  Functions : Part

abbrev pub before : List Part → Option (List Part) → Option (List Part)
before ps None = None
before ps (Some qs) = Some (qs ++ ps)

abbrev pub operator_of : Kind → Option Operator
operator_of (kinds.Of signs.Plus) = Some operators.Plus
operator_of (kinds.Of signs.Minus) = Some operators.Minus
operator_of (kinds.Of signs.And) = Some operators.And
operator_of (kinds.Of signs.Or) = Some operators.Or
operator_of _ = None

abbrev pub comparison_of : Kind → Option Comparison
comparison_of (kinds.Of signs.Equal) = Some comparisons.Equal
comparison_of (kinds.Of signs.Different) = Some comparisons.Different
comparison_of (kinds.Of signs.Less) = Some comparisons.Less
comparison_of _ = None

abbrev pub begins_term : Kind → Option (List Part)
begins_term (kinds.Number n) = Some []
begins_term (kinds.Name n) = Some (MaybeCall ∷ [])
begins_term (kinds.Of signs.Get) = Some []
begins_term (kinds.Of signs.Open) = Some (AnExpr ∷ Want signs.Close ∷ [])
begins_term _ = None

abbrev pub value : List Part
value = AnExpr ∷ Want signs.Semicolon ∷ []

abbrev pub begins_statement : Kind → Option (List Part)
begins_statement (kinds.Name n) = Some (AfterName ∷ [])
begins_statement (kinds.Of signs.Var) = Some (AName ∷ Want signs.Assign ∷ value)
begins_statement (kinds.Of signs.If) = Some (ACond ∷ ABlock ∷ MaybeElse ∷ [])
begins_statement (kinds.Of signs.While) = Some (ACond ∷ ABlock ∷ [])
begins_statement (kinds.Of signs.Return) = Some value
begins_statement (kinds.Of signs.Put) = Some value
begins_statement (kinds.Of signs.Halt) = Some (Want signs.Semicolon ∷ [])
begins_statement _ = None

abbrev pub begins_after_name : Kind → Option (List Part)
begins_after_name (kinds.Of signs.Assign) = Some value
begins_after_name (kinds.Of signs.Open) = Some (Arguments ∷ Want signs.Semicolon ∷ [])
begins_after_name _ = None

abbrev pub begins_else : Kind → Option (List Part)
begins_else (kinds.Of signs.Else) = Some (ABlock ∷ [])
begins_else _ = None

abbrev pub begins_steps : Kind → Option (List Part)
begins_steps k = option_map (λ o. ATerm ∷ Steps ∷ []) (operator_of k)

abbrev pub begins_compare : Kind → Option (List Part)
begins_compare k = option_map (λ c. AnExpr ∷ []) (comparison_of k)

abbrev pub begins_call : Kind → Option (List Part)
begins_call (kinds.Of signs.Open) = Some (Arguments ∷ [])
begins_call _ = None

abbrev pub begins_arguments : Kind → Option (List Part)
begins_arguments (kinds.Of signs.Close) = Some []
begins_arguments k = before (Steps ∷ MoreArguments ∷ []) (begins_term k)

abbrev pub begins_more : Kind → Option (List Part)
begins_more (kinds.Of signs.Close) = Some []
begins_more (kinds.Of signs.Comma) = Some (AnExpr ∷ MoreArguments ∷ [])
begins_more _ = None

abbrev pub begins_block : Kind → Option (List Part)
begins_block (kinds.Of signs.Begin) = Some (Statements ∷ Want signs.End ∷ [])
begins_block _ = None

abbrev pub begins_parameters : Kind → Option (List Part)
begins_parameters (kinds.Of signs.Close) = Some []
begins_parameters (kinds.Name n) = Some (MoreParameters ∷ [])
begins_parameters _ = None

abbrev pub begins_more_parameters : Kind → Option (List Part)
begins_more_parameters (kinds.Of signs.Close) = Some []
begins_more_parameters (kinds.Of signs.Comma) = Some (AName ∷ MoreParameters ∷ [])
begins_more_parameters _ = None

-- after `fn`
abbrev pub signature : List Part
signature = AName ∷ Want signs.Open ∷ Parameters ∷ ABlock ∷ []

abbrev pub begins_functions : Kind → Option (List Part)
begins_functions (kinds.Of signs.Fn) = Some (signature ++ Functions ∷ [])
begins_functions _ = None

abbrev pub is_name : Kind → Option (List Part)
is_name (kinds.Name n) = Some []
is_name _ = None

abbrev pub is_number : Kind → Option (List Part)
is_number (kinds.Number n) = Some []
is_number _ = None

abbrev pub is_the_sign : Sign → Kind → Bool
is_the_sign s (kinds.Of t) = rank t == rank s
is_the_sign s _ = false

abbrev pub is_sign : Sign → Kind → Option (List Part)
is_sign s k = if is_the_sign s k then Some [] else None

-- the part may begin with this token, and then these are to come
abbrev pub begins : Part → Kind → Option (List Part)
begins (Want s) k = is_sign s k
begins AName k = is_name k
begins ATerm k = begins_term k
begins AnExpr k = before (Steps ∷ []) (begins_term k)
begins Steps k = begins_steps k
begins MaybeCall k = begins_call k
begins Arguments k = begins_arguments k
begins MoreArguments k = begins_more k
begins ACond k = before (Steps ∷ Compare ∷ []) (begins_term k)
begins Compare k = begins_compare k
begins AStatement k = begins_statement k
begins AfterName k = begins_after_name k
begins MaybeElse k = begins_else k
begins Statements k = before (Statements ∷ []) (begins_statement k)
begins ABlock k = begins_block k
begins Parameters k = begins_parameters k
begins MoreParameters k = begins_more_parameters k
begins Functions k = begins_functions k

-- the part may be absent
abbrev pub is_optional : Part → Bool
is_optional Steps = true
is_optional MaybeCall = true
is_optional MaybeElse = true
is_optional Statements = true
is_optional Functions = true
is_optional _ = false

abbrev pub or_skip : Option (List Part) → Bool → List Part → Option (List Part) → Option (List Part)
or_skip (Some qs) o ps later = Some (qs ++ ps)
or_skip None true ps later = later
or_skip None false ps later = None

-- what is to come after this token
abbrev pub follow : List Part → Kind → Option (List Part)
follow [] k = None
follow (p ∷ ps) k = or_skip (begins p k) (is_optional p) ps (follow ps k)

-- ---- with refusals

abbrev pub fault_by : Kind → ℕ → Refusal
fault_by kinds.Bad line = refusals.BadToken line
fault_by kinds.Unread line = refusals.BadNumber line
fault_by _ line = refusals.BadSyntax line

-- why the first token, which does not follow, is refused
abbrev pub fault : List Token → Refusal
fault [] = refusals.Unfinished
fault (t ∷ ts) = fault_by t.kind t.line

abbrev pub Outcome : Type 0
Outcome = Result (Unit {0}) Refusal

abbrev pub deeper : ℕ → ℕ → (ℕ → Outcome) → Outcome
deeper levels line next = if levels == 0 then Err (refusals.TooDeep line) else next (levels - 1)

abbrev pub go_on : ℕ → Turn → ℕ → (ℕ → Outcome) → Outcome
go_on levels Stays line next = next levels
go_on levels Opens line next = deeper levels line next
go_on levels Closes line next = next (levels + 1)

abbrev pub take_on : ℕ → Token → Option (List Part) → (ℕ → List Part → Outcome) → Outcome
take_on levels t None next = Err (fault_by t.kind t.line)
take_on levels t (Some ps) next = go_on levels (turn t.kind) t.line (λ l. next l ps)

abbrev pub spent : List Part → Bool
spent [] = true
spent (p ∷ ps) = is_optional p && spent ps

-- the tokens, with this many levels left to open and these parts to come, or the first refusal
unfoldable pub walk : ℕ → List Part → List Token → Outcome
walk levels ps [] = if spent ps then Ok tt else Err refusals.Unfinished
walk levels ps (t ∷ ts) = take_on levels t (follow ps t.kind) (λ l qs. walk l qs ts)
