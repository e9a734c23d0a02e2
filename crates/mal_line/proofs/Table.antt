-- An expression has the coding that is looked up for it, and no other.
use Rattle.mal_line.proofs.Common.{◌≡◌, zero, suc, Bool, true, false, List, [], ◌∷◌, Option, Some, None, refl, sym, ap, subst, inl, inr, cond, pos, not}
use Rattle.mal_line.proofs.Common.{Machine, Mic1, Mic2, AluOp, BusSource, is_h, Word, Token, Operation, Operand}
use Rattle.micro_word.specs.declared.statement.AluOp.TheVariants as ops
use Rattle.mal_tokens.specs.declared.word.Word.TheVariants as words
use Rattle.mal_tokens.specs.declared.sign.Sign.TheVariants as signs
use Rattle.mal_tokens.specs.declared.token.Token.TheVariants as tokens
use Rattle.mal_line.specs.declared.expression.Operand.TheVariants as operands
use Rattle.mal_line.specs.Prelude.{IsOneOf, minus, one_token, plus, side, source_word, spelling, spellings, zero_token, from_one_source, joined, on_a, operand_by, operand_of, operation_in, paired, prefixed, single, source_of, sum_and_one, work}

-- ---- what is looked up is spelled

-- the token stands for the operand
Stands : Operand → Token → Type 0
Stands (operands.Source x) t = t ≡ tokens.Word (source_word x)
Stands operands.Zero t = t ≡ zero_token
Stands operands.One t = t ≡ one_token
Stands operands.Other t = Unit {0}

stands_word : (w : Word) → Stands (operand_by (source_of w)) (tokens.Word w)
unfolding Stands
stands_word w = elim w as (λ w. Stands (operand_by (source_of w)) (tokens.Word w)) [
  | words.Mar ↦ tt
  | words.N ↦ tt
  | words.Z ↦ tt
  | words.And ↦ tt
  | words.Or ↦ tt
  | words.Not ↦ tt
  | words.Rd ↦ tt
  | words.Wr ↦ tt
  | words.Fetch ↦ tt
  | words.Goto ↦ tt
  | words.If ↦ tt
  | words.Else ↦ tt
  | _ ↦ refl
]

stands : (t : Token) → Stands (operand_of t) t
unfolding Stands
stands (tokens.Word w) = stands_word w
stands (tokens.Number (pos zero)) = refl
stands (tokens.Number (pos (suc zero))) = refl
stands _ = tt

Spelled : Machine → List Token → Option Operation → Type 0
Spelled m body None = Unit {0}
Spelled m body (Some o) = IsOneOf body (spellings m o)

-- a single source stands on one side or the other
by_side : (m : Machine) (op_a op_b : AluOp) (x : BusSource) (body : List Token) → IsOneOf body (spellings m (work op_a (Some x) None))
    → IsOneOf body (spellings m (work op_b None (Some x)))
    → Spelled m body (Some (from_one_source m op_a op_b x))
unfolding Spelled
by_side m op_a op_b x body on_side_a on_side_b = go (on_a m x)
  where
    go : (w : Bool) → IsOneOf body (spellings m (cond w (work op_a (Some x) None) (work op_b None (Some x))))
    go true = on_side_a
    go false = on_side_b

-- an operation whose sides may be exchanged on Mic-1
pub data Commutes : AluOp → Type 0 where
  sum : Commutes ops.Sum
  sum_inc : Commutes ops.SumInc
  and_op : Commutes ops.And
  or_op : Commutes ops.Or

exchanged : (op : AluOp) (x y : BusSource) → Commutes op → IsOneOf (spelling op (side (Some x)) (side (Some y))) (spellings Mic1 (work op (Some y) (Some x)))
exchanged op x y sum = inr (inl refl)
exchanged op x y sum_inc = inr (inl refl)
exchanged op x y and_op = inr (inl refl)
exchanged op x y or_op = inr (inl refl)

paired_is : (m : Machine) (op : AluOp) (x y : BusSource) → Commutes op → Spelled m (spelling op (side (Some x)) (side (Some y))) (Some (paired m op x y))
unfolding Spelled
paired_is Mic1 op x y c = go (not (is_h x))
  where
    go : (w : Bool) → IsOneOf (spelling op (side (Some x)) (side (Some y))) (spellings Mic1 (cond w (work op (Some y) (Some x)) (work op (Some x) (Some y))))
    go true = exchanged op x y c
    go false = inl refl
paired_is Mic2 op x y c = inl refl

both_is : (m : Machine) (op : AluOp) (x y : BusSource) (t u : Token) → Commutes op → t ≡ tokens.Word (source_word x) → u ≡ tokens.Word (source_word y)
    → Spelled m (spelling op (t ∷ []) (u ∷ [])) (Some (paired m op x y))
both_is m op x y t u c s r =
    subst (λ v. Spelled m (spelling op (v ∷ []) (u ∷ [])) (Some (paired m op x y))) (sym s)
    (subst (λ v. Spelled m (spelling op (side (Some x)) (v ∷ [])) (Some (paired m op x y))) (sym r) (paired_is m op x y c))

single_is : (m : Machine) (p : Operand) (t : Token) → Stands p t → Spelled m (t ∷ []) (single m p)
unfolding Stands Spelled
single_is m (operands.Source x) t s = by_side m ops.A ops.B x (t ∷ []) (inl (ap (λ u. u ∷ []) s)) (inl (ap (λ u. u ∷ []) s))
single_is m operands.Zero t s = inl (ap (λ u. u ∷ []) s)
single_is m operands.One t s = inl (ap (λ u. u ∷ []) s)
single_is m operands.Other t s = tt

prefixed_is : (m : Machine) (o : Token) (p : Operand) (t : Token) → Stands p t → Spelled m (o ∷ t ∷ []) (prefixed m o p)
unfolding Stands Spelled
prefixed_is m (tokens.Word words.Not) (operands.Source x) t s =
    let e : tokens.Word words.Not ∷ t ∷ [] ≡ tokens.Word words.Not ∷ tokens.Word (source_word x) ∷ [] = ap (λ u. tokens.Word words.Not ∷ u ∷ []) s in
    by_side m ops.NotA ops.NotB x (tokens.Word words.Not ∷ t ∷ []) (inl e) (inl e)
prefixed_is m (tokens.Sign signs.Minus) (operands.Source x) t s = inl (ap (λ u. minus ∷ u ∷ []) s)
prefixed_is m (tokens.Sign signs.Minus) operands.One t s = inl (ap (λ u. minus ∷ u ∷ []) s)
prefixed_is m _ _ t s = tt

three : (t u a b o : Token) → t ≡ a → u ≡ b → t ∷ o ∷ u ∷ [] ≡ a ∷ o ∷ b ∷ []
three t u a b o p q = rw (p, q) refl

joined_is : (m : Machine) (p : Operand) (o : Token) (q : Operand) (t u : Token) → Stands p t → Stands q u → Spelled m (t ∷ o ∷ u ∷ []) (joined m p o q)
unfolding Stands Spelled
joined_is m (operands.Source x) (tokens.Sign signs.Plus) (operands.Source y) t u s r = both_is m ops.Sum x y t u sum s r
joined_is m (operands.Source x) (tokens.Sign signs.Plus) operands.One t u s r =
    let e = three t u (tokens.Word (source_word x)) one_token plus s r in
    by_side m ops.IncA ops.IncB x (t ∷ plus ∷ u ∷ []) (inl e) (inl e)
joined_is m operands.One (tokens.Sign signs.Plus) (operands.Source y) t u s r =
    let e = three t u one_token (tokens.Word (source_word y)) plus s r in
    by_side m ops.IncA ops.IncB y (t ∷ plus ∷ u ∷ []) (inr (inl e)) (inr (inl e))
joined_is m (operands.Source x) (tokens.Sign signs.Minus) (operands.Source y) t u s r =
    inl (three t u (tokens.Word (source_word x)) (tokens.Word (source_word y)) minus s r)
joined_is m (operands.Source x) (tokens.Sign signs.Minus) operands.One t u s r = inl (three t u (tokens.Word (source_word x)) one_token minus s r)
joined_is m (operands.Source x) (tokens.Word words.And) (operands.Source y) t u s r = both_is m ops.And x y t u and_op s r
joined_is m (operands.Source x) (tokens.Word words.Or) (operands.Source y) t u s r = both_is m ops.Or x y t u or_op s r
joined_is m _ _ _ t u s r = tt

next_is : (m : Machine) (p q r : Operand) (t a u b v : Token) → Stands p t → Stands q u → Stands r v
    → Spelled m (t ∷ a ∷ u ∷ b ∷ v ∷ []) (sum_and_one m p q r a b)
unfolding Stands Spelled
next_is m (operands.Source x) (operands.Source y) operands.One t (tokens.Sign signs.Plus) u (tokens.Sign signs.Plus) v s r e =
    subst (λ c. Spelled m (t ∷ plus ∷ u ∷ plus ∷ c ∷ []) (Some (paired m ops.SumInc x y))) (sym e) (both_is m ops.SumInc x y t u sum_inc s r)
next_is m _ _ _ t _ u _ v s r e = tt

form_spelled : (m : Machine) (body : List Token) → Spelled m body (operation_in m body)
unfolding Spelled
form_spelled m [] = tt
form_spelled m (x ∷ []) = single_is m (operand_of x) x (stands x)
form_spelled m (o ∷ x ∷ []) = prefixed_is m o (operand_of x) x (stands x)
form_spelled m (x ∷ o ∷ y ∷ []) = joined_is m (operand_of x) o (operand_of y) x y (stands x) (stands y)
form_spelled m (x ∷ a ∷ y ∷ b ∷ []) = tt
form_spelled m (x ∷ a ∷ y ∷ b ∷ z ∷ []) = next_is m (operand_of x) (operand_of y) (operand_of z) x a y b z (stands x) (stands y) (stands z)
form_spelled m (x ∷ a ∷ y ∷ b ∷ z ∷ u ∷ rest) = tt

pub form_is : (m : Machine) (body : List Token) (o : Operation) → operation_in m body ≡ Some o → IsOneOf body (spellings m o)
unfolding Spelled
form_is m body o h = subst (Spelled m body) h (form_spelled m body)
