-- How instructions are spelled by tokens.
use Rattle.std.specs.Prelude.{◌≡◌, ℕ, true, false, List, [], ◌∷◌}
use Rattle.ijvm_tokens.specs.declared.token.Token.{Token}
use Rattle.ijvm_tokens.specs.declared.token.Token.TheVariants as tokens
use Rattle.ijvm_line.specs.declared.mnemonic.Kind.{Kind}
use Rattle.ijvm_line.specs.declared.mnemonic.Kind.TheVariants as kinds
use Rattle.ijvm_line.specs.declared.statement.Operand.{Operand}
use Rattle.ijvm_line.specs.declared.statement.Operand.TheVariants as operands
use Rattle.ijvm_line.specs.declared.statement.Statement.{Statement}
use Rattle.ijvm_line.specs.declared.statement.Statement.TheVariants as statements
use Rattle.ijvm_line.specs.Mnemonics.{IsOfKind}

-- the tokens are a word of this kind, and then these tokens
pub record Begins (kind : Kind) (rest : List Token) (ts : List Token) : Type 0 where
  pub text : List ℕ
  pub of_kind : IsOfKind text kind
  pub split : ts ≡ tokens.Name text ∷ rest

abbrev pub operand_token : Operand → Token
operand_token (operands.Name name) = tokens.Name name
operand_token (operands.Number value) = tokens.Number value

-- the tokens spell the instruction
abbrev pub IsStatement : List Token → Statement → Type 0
IsStatement ts (statements.Plain instr) = Begins (kinds.Alone instr) [] ts
IsStatement ts (statements.Push value) = Begins kinds.Push (tokens.Number value ∷ []) ts
IsStatement ts (statements.Constant constant) = Begins kinds.Constant (operand_token constant ∷ []) ts
IsStatement ts (statements.Local access false local) = Begins (kinds.Local access) (operand_token local ∷ []) ts
IsStatement ts (statements.Local access true local) = (rest : List Token) × Begins kinds.Wide rest ts
    × Begins (kinds.Local access) (operand_token local ∷ []) rest
IsStatement ts (statements.Increment false local by) = Begins kinds.Increment (operand_token local ∷ tokens.Number by ∷ []) ts
IsStatement ts (statements.Increment true local by) = (rest : List Token) × Begins kinds.Wide rest ts
    × Begins kinds.Increment (operand_token local ∷ tokens.Number by ∷ []) rest
IsStatement ts (statements.Jump jump label) = Begins (kinds.Jump jump) (tokens.Name label ∷ []) ts
IsStatement ts (statements.Call method) = Begins kinds.Call (tokens.Name method ∷ []) ts
