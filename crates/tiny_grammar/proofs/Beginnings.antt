-- Tokens with which no part begins.
use Rattle.tiny_grammar.proofs.Common.{◌≡◌, refl, None, [], ◌∷◌, Kind}
use Rattle.tiny_draft.specs.declared.token.Kind.TheVariants as kinds
use Rattle.tiny_draft.specs.declared.token.Sign.TheVariants as signs
use Rattle.tiny_grammar.specs.Prelude.{MoreArguments, Steps, before, begins_arguments, begins_block, begins_call, begins_else, begins_functions, begins_more, begins_more_parameters, begins_statement, begins_term, is_name, is_number, is_sign}

pub more_none : (k : Kind) → is_sign signs.Comma k ≡ None → is_sign signs.Close k ≡ None → begins_more k ≡ None
more_none (kinds.Of signs.Comma) a b = absurd (cc)
more_none (kinds.Of signs.Close) a b = absurd (cc)
more_none _ a b = refl

pub more_parameters_none : (k : Kind) → is_sign signs.Comma k ≡ None → is_sign signs.Close k ≡ None → begins_more_parameters k ≡ None
more_parameters_none (kinds.Of signs.Comma) a b = absurd (cc)
more_parameters_none (kinds.Of signs.Close) a b = absurd (cc)
more_parameters_none _ a b = refl

pub call_none : (k : Kind) → is_sign signs.Open k ≡ None → begins_call k ≡ None
call_none (kinds.Of signs.Open) a = absurd (cc)
call_none _ a = refl

pub arguments_not_closed : (k : Kind) → is_sign signs.Close k ≡ None → begins_arguments k ≡ before (Steps ∷ MoreArguments ∷ []) (begins_term k)
arguments_not_closed (kinds.Of signs.Close) a = absurd (cc)
arguments_not_closed _ a = refl

pub term_none : (k : Kind) → is_sign signs.Open k ≡ None → is_sign signs.Get k ≡ None → is_number k ≡ None → is_name k ≡ None → begins_term k ≡ None
term_none (kinds.Of signs.Open) a b x y = absurd (cc)
term_none (kinds.Of signs.Get) a b x y = absurd (cc)
term_none (kinds.Number n) a b x y = absurd (cc)
term_none (kinds.Name n) a b x y = absurd (cc)
term_none _ a b x y = refl

pub else_none : (k : Kind) → is_sign signs.Else k ≡ None → begins_else k ≡ None
else_none (kinds.Of signs.Else) a = absurd (cc)
else_none _ a = refl

pub functions_none : (k : Kind) → is_sign signs.Fn k ≡ None → begins_functions k ≡ None
functions_none (kinds.Of signs.Fn) a = absurd (cc)
functions_none _ a = refl

pub block_none : (k : Kind) → is_sign signs.Begin k ≡ None → begins_block k ≡ None
block_none (kinds.Of signs.Begin) a = absurd (cc)
block_none _ a = refl

pub statement_none : (k : Kind) → is_sign signs.Put k ≡ None → is_sign signs.Return k ≡ None → is_sign signs.Halt k ≡ None → is_sign signs.Var k ≡ None
    → is_sign signs.While k ≡ None → is_sign signs.If k ≡ None → is_name k ≡ None → begins_statement k ≡ None
statement_none (kinds.Of signs.Put) a b c d x y z = absurd (cc)
statement_none (kinds.Of signs.Return) a b c d x y z = absurd (cc)
statement_none (kinds.Of signs.Halt) a b c d x y z = absurd (cc)
statement_none (kinds.Of signs.Var) a b c d x y z = absurd (cc)
statement_none (kinds.Of signs.While) a b c d x y z = absurd (cc)
statement_none (kinds.Of signs.If) a b c d x y z = absurd (cc)
statement_none (kinds.Name n) a b c d x y z = absurd (cc)
statement_none _ a b c d x y z = refl
