-- The grammar on a worked program.
use Rattle.tiny_grammar.proofs.Common.{ℕ, List, [], ◌∷◌, refl, Sign, Token, Word, Function, Expr, Variable, Number, Called, Sum, no_steps, step, argument}
use Rattle.tiny_grammar.proofs.Common.{no_arguments, Compare, While, Put, Return, statement, no_statements}
use Rattle.tiny_tree.specs.declared.tree.Operator.TheVariants as operators
use Rattle.tiny_draft.specs.declared.token.Kind.TheVariants as kinds
use Rattle.tiny_draft.specs.declared.token.Sign.TheVariants as signs
use Rattle.tiny_draft.specs.declared.tree.Comparison.TheVariants as comparisons
use Rattle.tiny_grammar.specs.Prelude.{SpellsProgram}

abbrev of : Sign → ℕ → Token
of s line = record { kind = kinds.Of s; line = line }

abbrev name : ℕ → ℕ → Token
name n line = record { kind = kinds.Name n; line = line }

abbrev number : ℕ → ℕ → Token
number n line = record { kind = kinds.Number n; line = line }

abbrev word : ℕ → ℕ → Word
word n line = record { name = n; line = line }

-- fn add(a, b) { return a + b; }
-- fn main() { while 1 < 2 { put add(3, 4); } }
abbrev tokens : List Token
tokens =
    of signs.Fn 1 ∷ name 1 1 ∷ of signs.Open 1 ∷ name 2 1 ∷ of signs.Comma 1 ∷ name 3 1 ∷ of signs.Close 1
    ∷ of signs.Begin 1 ∷ of signs.Return 1 ∷ name 2 1 ∷ of signs.Plus 1 ∷ name 3 1 ∷ of signs.Semicolon 1 ∷ of signs.End 1
    ∷ of signs.Fn 2 ∷ name 0 2 ∷ of signs.Open 2 ∷ of signs.Close 2 ∷ of signs.Begin 2 ∷ of signs.While 2 ∷ number 1 2 ∷ of signs.Less 2 ∷ number 2 2
    ∷ of signs.Begin 2 ∷ of signs.Put 2 ∷ name 1 2 ∷ of signs.Open 2 ∷ number 3 2 ∷ of signs.Comma 2 ∷ number 4 2 ∷ of signs.Close 2 ∷ of signs.Semicolon 2
    ∷ of signs.End 2 ∷ of signs.End 2 ∷ []

abbrev alone : ℕ → Expr
alone n = Sum (Number n) no_steps

abbrev functions : List Function
functions =
    record {
      name = word 1 1;
      parameters = word 2 1 ∷ word 3 1 ∷ [];
      body = statement (Return 1 (Sum (Variable (word 2 1)) (step operators.Plus (Variable (word 3 1)) no_steps))) no_statements;
    }
    ∷ record {
      name = word 0 2;
      parameters = [];
      body = statement (While 2 (Compare comparisons.Less (alone 1) (alone 2))
          (statement (Put (Sum (Called (word 1 2) (argument (alone 3) (argument (alone 4) no_arguments))) no_steps)) no_statements)) no_statements;
    }
    ∷ []

two_functions : SpellsProgram tokens functions
two_functions = refl
