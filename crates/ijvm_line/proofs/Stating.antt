-- An instruction is read as what its tokens spell.
use Rattle.ijvm_line.proofs.Common.{◌≡◌, ℕ, ℤ, Bool, List, [], ◌∷◌, true, false, Option, Some, None, refl, ap, subst, ◌∙◌, option_map, option_and_then}
use Rattle.ijvm_line.proofs.Common.{option_and_then_some, mapped, Sign, Token, Kind, Operand, Statement, increment}
use Rattle.ijvm_tokens.specs.declared.token.Token.TheVariants as tokens
use Rattle.ijvm_line.specs.declared.mnemonic.Kind.TheVariants as kinds
use Rattle.ijvm_line.specs.declared.statement.Operand.TheVariants as operands
use Rattle.ijvm_line.specs.declared.statement.Statement.TheVariants as statements
use Rattle.ijvm_line.specs.Prelude.{find_kind, Begins, IsStatement, operand_token, operand_of, statement_by, statement_of, wide, wide_by}
use Rattle.ijvm_line.proofs.Naming.{kind_again, kind_is}

operand_is : (ts : List Token) (o : Operand) → operand_of ts ≡ Some o → ts ≡ operand_token o ∷ []
operand_is (tokens.Name n ∷ []) o h = let k : operands.Name n ≡ o = cc in subst (λ o. tokens.Name n ∷ [] ≡ operand_token o ∷ []) k refl
operand_is (tokens.Number v ∷ []) o h = let k : operands.Number v ≡ o = cc in subst (λ o. tokens.Number v ∷ [] ≡ operand_token o ∷ []) k refl
operand_is _ o h = absurd (cc)

operand_again : (o : Operand) → operand_of (operand_token o ∷ []) ≡ Some o
operand_again (operands.Name n) = refl
operand_again (operands.Number v) = refl

begins : (n : List ℕ) (k : Kind) (rest : List Token) → find_kind n ≡ Some k → Begins k rest (tokens.Name n ∷ rest)
begins n k rest e = record { text = n; of_kind = kind_is n k e; split = refl }

-- ---- what is read is spelled

-- what the operands of an increment are
increment_is : (wide : Bool) (ts : List Token) (st : Statement) → increment wide ts ≡ Some st
    → (o : Operand) × (by : Option ℤ) × (ts ≡ operand_token o ∷ tokens.Number by ∷ []) × (statements.Increment wide o by ≡ st)
increment_is wide (tokens.Name n ∷ tokens.Number v ∷ []) st h = (operands.Name n, v, refl, cc)
increment_is wide (tokens.Number i ∷ tokens.Number v ∷ []) st h = (operands.Number i, v, refl, cc)
increment_is wide _ st h = absurd (cc)

wide_is : (rest : List Token) (st : Statement) (ts : List Token) → Begins kinds.Wide rest ts → wide rest ≡ Some st → IsStatement ts st
wide_is [] st ts b h = absurd (cc)
wide_is (tokens.Sign s ∷ more) st ts b h = absurd (cc)
wide_is (tokens.Number v ∷ more) st ts b h = absurd (cc)
wide_is (tokens.Name n ∷ more) st ts b h = go (find_kind n) refl h
  where
    go : (r : Option Kind) → find_kind n ≡ r → wide_by r more ≡ Some st → IsStatement ts st
    go (Some (kinds.Local access)) e h =
        let p = mapped (λ o. statements.Local access true o) (operand_of more) st h in
        subst (IsStatement ts) p.2 (tokens.Name n ∷ more, b, subst (λ r. Begins (kinds.Local access) r (tokens.Name n ∷ more)) (operand_is more p.0 p.1) (begins n (kinds.Local access) more e))
    go (Some kinds.Increment) e h =
        let p = increment_is true more st h in
        subst (IsStatement ts) p.3 (tokens.Name n ∷ more, b, subst (λ r. Begins kinds.Increment r (tokens.Name n ∷ more)) p.2 (begins n kinds.Increment more e))
    go _ e h = absurd (cc)

alone_is : (k : Kind) (rest : List Token) (st : Statement) (ts : List Token) → Begins k rest ts → statement_by k rest ≡ Some st → IsStatement ts st
alone_is (kinds.Alone i) [] st ts b h = let k : statements.Plain i ≡ st = cc in subst (IsStatement ts) k b
alone_is (kinds.Alone i) (t ∷ more) st ts b h = absurd (cc)
alone_is kinds.Push (tokens.Number v ∷ []) st ts b h = let k : statements.Push v ≡ st = cc in subst (IsStatement ts) k b
alone_is kinds.Push _ st ts b h = absurd (cc)
alone_is kinds.Constant rest st ts b h =
    let p = mapped (λ o. statements.Constant o) (operand_of rest) st h in
    subst (IsStatement ts) p.2 (subst (λ r. Begins kinds.Constant r ts) (operand_is rest p.0 p.1) b)
alone_is (kinds.Local access) rest st ts b h =
    let p = mapped (λ o. statements.Local access false o) (operand_of rest) st h in
    subst (IsStatement ts) p.2 (subst (λ r. Begins (kinds.Local access) r ts) (operand_is rest p.0 p.1) b)
alone_is kinds.Increment rest st ts b h =
    let p = increment_is false rest st h in
    subst (IsStatement ts) p.3 (subst (λ r. Begins kinds.Increment r ts) p.2 b)
alone_is (kinds.Jump j) (tokens.Name n ∷ []) st ts b h = let k : statements.Jump j n ≡ st = cc in subst (IsStatement ts) k b
alone_is (kinds.Jump j) _ st ts b h = absurd (cc)
alone_is kinds.Call (tokens.Name n ∷ []) st ts b h = let k : statements.Call n ≡ st = cc in subst (IsStatement ts) k b
alone_is kinds.Call _ st ts b h = absurd (cc)
alone_is kinds.Wide rest st ts b h = wide_is rest st ts b h

pub statement_is : (ts : List Token) (st : Statement) → statement_of ts ≡ Some st → IsStatement ts st
statement_is [] st h = absurd (cc)
statement_is (tokens.Sign s ∷ rest) st h = absurd (cc)
statement_is (tokens.Number v ∷ rest) st h = absurd (cc)
statement_is (tokens.Name n ∷ rest) st h =
    option_and_then_some (λ kind. statement_by kind rest) (find_kind n) st h
    (λ kind at is. alone_is kind rest st (tokens.Name n ∷ rest) (begins n kind rest at) is)

-- ---- what is spelled is read

begun_again : (k : Kind) (rest ts : List Token) → Begins k rest ts → statement_of ts ≡ statement_by k rest
begun_again k rest ts b = ap statement_of b.split ∙ ap (option_and_then (λ kind. statement_by kind rest)) (kind_again b.text k b.of_kind)

wide_again : (k : Kind) (rest ts : List Token) → Begins k rest ts → wide ts ≡ wide_by (Some k) rest
wide_again k rest ts b = ap wide b.split ∙ ap (λ r. wide_by r rest) (kind_again b.text k b.of_kind)

pub statement_again : (ts : List Token) (st : Statement) → IsStatement ts st → statement_of ts ≡ Some st
statement_again ts (statements.Plain i) b = begun_again (kinds.Alone i) [] ts b
statement_again ts (statements.Push v) b = begun_again kinds.Push (tokens.Number v ∷ []) ts b
statement_again ts (statements.Constant o) b = begun_again kinds.Constant (operand_token o ∷ []) ts b ∙ ap (option_map (λ o. statements.Constant o)) (operand_again o)
statement_again ts (statements.Local access false o) b = begun_again (kinds.Local access) (operand_token o ∷ []) ts b ∙ ap (option_map (λ o. statements.Local access false o)) (operand_again o)
statement_again ts (statements.Local access true o) (rest, b, c) =
    begun_again kinds.Wide rest ts b ∙ (wide_again (kinds.Local access) (operand_token o ∷ []) rest c ∙ ap (option_map (λ o. statements.Local access true o)) (operand_again o))
statement_again ts (statements.Increment false (operands.Name n) v) b = begun_again kinds.Increment (tokens.Name n ∷ tokens.Number v ∷ []) ts b
statement_again ts (statements.Increment false (operands.Number i) v) b = begun_again kinds.Increment (tokens.Number i ∷ tokens.Number v ∷ []) ts b
statement_again ts (statements.Increment true (operands.Name n) v) (rest, b, c) = begun_again kinds.Wide rest ts b ∙ wide_again kinds.Increment (tokens.Name n ∷ tokens.Number v ∷ []) rest c
statement_again ts (statements.Increment true (operands.Number i) v) (rest, b, c) = begun_again kinds.Wide rest ts b ∙ wide_again kinds.Increment (tokens.Number i ∷ tokens.Number v ∷ []) rest c
statement_again ts (statements.Jump j n) b = begun_again (kinds.Jump j) (tokens.Name n ∷ []) ts b
statement_again ts (statements.Call n) b = begun_again kinds.Call (tokens.Name n ∷ []) ts b

-- no operand is a sign
pub no_sign : (n : List ℕ) (s : Sign) (rest : List Token) → statement_of (tokens.Name n ∷ tokens.Sign s ∷ rest) ≡ None
no_sign n s rest = go (find_kind n)
  where
    by_kind : (k : Kind) → statement_by k (tokens.Sign s ∷ rest) ≡ None
    by_kind (kinds.Alone i) = refl
    by_kind _ = refl

    go : (r : Option Kind) → option_and_then (λ kind. statement_by kind (tokens.Sign s ∷ rest)) r ≡ None
    go None = refl
    go (Some k) = by_kind k
