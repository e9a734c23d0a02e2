-- The coding of an expression is the one that is looked up for it.
use Rattle.mal_line.proofs.Common.{◌≡◌, ℕ, Bool, true, false, List, [], ◌∷◌, Option, Some, None, refl, ap, subst, ◌∙◌, inl, inr, ℤ, pos, negsuc, not}
use Rattle.mal_line.proofs.Common.{option_and_then, ◌&&◌, nat_lt, and_parts, eqb-true, Machine, Mic1, Mic2, bound, chosen, mapped, AluOp, BusSource, Shift, row}
use Rattle.mal_line.proofs.Common.{fits_side, has_operation, is_h, is_mixed, may_be_a, may_be_b, may_fetch, Token, Operation, Tail}
use Rattle.micro_word.specs.declared.statement.AluOp.TheVariants as ops
use Rattle.micro_word.specs.declared.statement.BusSource.TheVariants as bus
use Rattle.micro_word.specs.declared.statement.Shift.TheVariants as shifts
use Rattle.mal_tokens.specs.declared.word.Word.TheVariants as words
use Rattle.mal_tokens.specs.declared.token.Token.TheVariants as tokens
use Rattle.mal_line.specs.declared.chain.Tail.TheVariants as tails
use Rattle.mal_line.specs.Prelude.{fits, IsCoded, IsOneOf, minus, one_token, other_spellings, plus, side, source_word, spelling, spellings, tail_with, checked, coding_of, operation_in, is_number, from_one_source, paired, shift_of, source_of, with_shift, work}
use Rattle.mal_line.proofs.Table.{form_is, Commutes, sum, sum_inc, and_op, or_op}

-- ---- what is spelled is looked up

source_again : (x : BusSource) → source_of (source_word x) ≡ Some x
source_again x = elim x as (λ x. source_of (source_word x) ≡ Some x) [
  | bus.Mdr ↦ refl
  | _ ↦ refl
]

-- H is on no B side of Mic-1
b_is_not_h : (x : BusSource) → may_be_b Mic1 x ≡ true → is_h x ≡ false
b_is_not_h x = elim x as (λ x. may_be_b Mic1 x ≡ true → is_h x ≡ false) [
  | bus.H ↦ λ h. absurd (cc)
  | _ ↦ λ h. refl
]

abbrev source : BusSource → Token
source x = tokens.Word (source_word x)

form_lone : (m : Machine) (x : BusSource) → operation_in m (source x ∷ []) ≡ Some (from_one_source m ops.A ops.B x)
form_lone m x = rw (source_again x) refl

form_not : (m : Machine) (x : BusSource) → operation_in m (tokens.Word words.Not ∷ source x ∷ []) ≡ Some (from_one_source m ops.NotA ops.NotB x)
form_not m x = rw (source_again x) refl

form_neg : (m : Machine) (x : BusSource) → operation_in m (minus ∷ source x ∷ []) ≡ Some (work ops.NegA (Some x) None)
form_neg m x = rw (source_again x) refl

form_inc : (m : Machine) (x : BusSource) → operation_in m (source x ∷ plus ∷ one_token ∷ []) ≡ Some (from_one_source m ops.IncA ops.IncB x)
form_inc m x = rw (source_again x) refl

form_more : (m : Machine) (x : BusSource) → operation_in m (one_token ∷ plus ∷ source x ∷ []) ≡ Some (from_one_source m ops.IncA ops.IncB x)
form_more m x = rw (source_again x) refl

form_dec : (m : Machine) (x : BusSource) → operation_in m (source x ∷ minus ∷ one_token ∷ []) ≡ Some (work ops.DecB None (Some x))
form_dec m x = rw (source_again x) refl

form_sub : (m : Machine) (x y : BusSource) → operation_in m (source x ∷ minus ∷ source y ∷ []) ≡ Some (work ops.Sub (Some y) (Some x))
form_sub m x y = rw (source_again x, source_again y) refl

form_both : (m : Machine) (op : AluOp) (x y : BusSource) → Commutes op → operation_in m (spelling op (side (Some x)) (side (Some y))) ≡ Some (paired m op x y)
form_both m op x y sum = rw (source_again x, source_again y) refl
form_both m op x y sum_inc = rw (source_again x, source_again y) refl
form_both m op x y and_op = rw (source_again x, source_again y) refl
form_both m op x y or_op = rw (source_again x, source_again y) refl

on_b_side : (m : Machine) (op_a op_b : AluOp) (x : BusSource) → may_be_b m x ≡ true → from_one_source m op_a op_b x ≡ work op_b None (Some x)
on_b_side Mic1 op_a op_b x h = rw (b_is_not_h x h) refl
on_b_side Mic2 op_a op_b x h = refl

on_a_side : (op_a op_b : AluOp) (x : BusSource) → is_h x ≡ true → from_one_source Mic1 op_a op_b x ≡ work op_a (Some x) None
on_a_side op_a op_b x h = rw h refl

in_order : (m : Machine) (op : AluOp) (x y : BusSource) → may_be_a m x ≡ true → paired m op x y ≡ work op (Some x) (Some y)
in_order Mic1 op x y h = rw h refl
in_order Mic2 op x y h = refl

out_of_order : (op : AluOp) (x y : BusSource) → may_be_b Mic1 y ≡ true → paired Mic1 op y x ≡ work op (Some x) (Some y)
out_of_order op x y h = rw (b_is_not_h y h) refl

only : {ts x : List Token} → IsOneOf ts (x ∷ []) → ts ≡ x
only (inl e) = e
only (inr e) = elim e [ ]

-- X+1 or 1+X
next_again : (m : Machine) (x : BusSource) (body : List Token) → IsOneOf body ((source x ∷ plus ∷ one_token ∷ []) ∷ (one_token ∷ plus ∷ source x ∷ []) ∷ [])
    → operation_in m body ≡ Some (from_one_source m ops.IncA ops.IncB x)
next_again m x body (inl e) = ap (operation_in m) e ∙ form_inc m x
next_again m x body (inr s) = ap (operation_in m) (only s) ∙ form_more m x

-- the sides in order, or exchanged
first_again : (m : Machine) (op : AluOp) (x y : BusSource) (body : List Token) → Commutes op → may_be_a m x ≡ true
    → body ≡ spelling op (side (Some x)) (side (Some y)) → operation_in m body ≡ Some (work op (Some x) (Some y))
first_again m op x y body c f e = ap (operation_in m) e ∙ (form_both m op x y c ∙ ap Some (in_order m op x y f))

either_again : (op : AluOp) (x y : BusSource) (body : List Token) → Commutes op → may_be_a Mic1 x ≡ true → may_be_b Mic1 y ≡ true
    → IsOneOf body (spelling op (side (Some x)) (side (Some y)) ∷ spelling op (side (Some y)) (side (Some x)) ∷ [])
    → operation_in Mic1 body ≡ Some (work op (Some x) (Some y))
either_again op x y body c f g (inl e) = first_again Mic1 op x y body c f e
either_again op x y body c f g (inr s) = ap (operation_in Mic1) (only s) ∙ (form_both Mic1 op y x c ∙ ap Some (out_of_order op x y g))

-- the operation is looked up, where the machine has it and its sides fit
Again : Machine → AluOp → Option BusSource → Option BusSource → Type 0
Again m op a b = (body : List Token) → has_operation m op ≡ true → fits_side (row op).uses_a (may_be_a m) a ≡ true → fits_side (row op).uses_b (may_be_b m) b ≡ true
    → IsOneOf body (spelling op (side a) (side b) ∷ other_spellings m op (side a) (side b)) → operation_in m body ≡ Some (work op a b)

again : (m : Machine) (op : AluOp) (a b : Option BusSource) → Again m op a b
unfolding Again
again Mic1 ops.A (Some x) None body h f g s = ap (operation_in Mic1) (only s) ∙ (form_lone Mic1 x ∙ ap Some (on_a_side ops.A ops.B x f))
again Mic1 ops.NotA (Some x) None body h f g s = ap (operation_in Mic1) (only s) ∙ (form_not Mic1 x ∙ ap Some (on_a_side ops.NotA ops.NotB x f))
again Mic1 ops.IncA (Some x) None body h f g s = next_again Mic1 x body s ∙ ap Some (on_a_side ops.IncA ops.IncB x f)
again m ops.B None (Some x) body h f g s = ap (operation_in m) (only s) ∙ (form_lone m x ∙ ap Some (on_b_side m ops.A ops.B x g))
again m ops.NotB None (Some x) body h f g s = ap (operation_in m) (only s) ∙ (form_not m x ∙ ap Some (on_b_side m ops.NotA ops.NotB x g))
again m ops.IncB None (Some x) body h f g s = next_again m x body s ∙ ap Some (on_b_side m ops.IncA ops.IncB x g)
again Mic1 ops.Sum (Some x) (Some y) body h f g s = either_again ops.Sum x y body sum f g s
again Mic2 ops.Sum (Some x) (Some y) body h f g s = first_again Mic2 ops.Sum x y body sum f (only s)
again Mic1 ops.SumInc (Some x) (Some y) body h f g s = either_again ops.SumInc x y body sum_inc f g s
again Mic2 ops.SumInc (Some x) (Some y) body h f g s = first_again Mic2 ops.SumInc x y body sum_inc f (only s)
again Mic1 ops.And (Some x) (Some y) body h f g s = either_again ops.And x y body and_op f g s
again Mic2 ops.And (Some x) (Some y) body h f g s = first_again Mic2 ops.And x y body and_op f (only s)
again Mic1 ops.Or (Some x) (Some y) body h f g s = either_again ops.Or x y body or_op f g s
again Mic2 ops.Or (Some x) (Some y) body h f g s = first_again Mic2 ops.Or x y body or_op f (only s)
again m ops.Sub (Some x) (Some y) body h f g s = ap (operation_in m) (only s) ∙ form_sub m y x
again m ops.DecB None (Some x) body h f g s = ap (operation_in m) (only s) ∙ form_dec m x
again m ops.NegA (Some x) None body h f g s = ap (operation_in m) (only s) ∙ form_neg m x
again m ops.Zero None None body h f g s = ap (operation_in m) (only s)
again m ops.One None None body h f g s = ap (operation_in m) (only s)
again m ops.MinusOne None None body h f g s = ap (operation_in m) (only s)
again m _ _ _ body h f g s = absurd (cc)

-- ---- the coding as a whole

pub six_parts : (u v w x y z : Bool) → (((((u && v) && w) && x) && y) && z) ≡ true → (v ≡ true) × (w ≡ true) × (x ≡ true) × (y ≡ true)
six_parts u v w x y z h =
    let four = and_parts (((u && v) && w) && x) y (and_parts ((((u && v) && w) && x) && y) z h).0 in
    let three = and_parts ((u && v) && w) x four.0 in
    let two = and_parts (u && v) w three.0 in
    ((and_parts u v two.0).1, two.1, three.1, four.1)

form_again : (m : Machine) (body : List Token) (o : Operation) → fits m o ≡ true → IsOneOf body (spellings m o) → operation_in m body ≡ Some (work o.op o.a o.b)
unfolding Again
form_again m body o h s =
    let p = six_parts (nat_lt 0 512) (has_operation m o.op) (fits_side (row o.op).uses_a (may_be_a m) o.a) (fits_side (row o.op).uses_b (may_be_b m) o.b) (not (is_mixed o.a o.b)) (may_fetch m false) h in
    again m o.op o.a o.b body p.0 p.1 p.2 s

shift_again : (s : Shift) → shift_of (tail_with s) ≡ Some s
shift_again shifts.None = refl
shift_again _ = refl

pub number_is : (v : ℤ) (n : ℕ) → is_number v n ≡ true → v ≡ pos n
number_is (pos k) n h = ap pos (eqb-true k n h)
number_is (negsuc k) n h = absurd (cc)

shift_is : (t : Tail) (s : Shift) → shift_of t ≡ Some s → t ≡ tail_with s
shift_is tails.Nothing s h = let e : shifts.None ≡ s = cc in subst (λ s. tails.Nothing ≡ tail_with s) e refl
shift_is (tails.Left v) s h = elim (chosen (is_number v 8) (Some shifts.Left8) None (Some s) h) [
  | inl w ↦ let e : shifts.Left8 ≡ s = cc in subst (λ s. tails.Left v ≡ tail_with s) e (ap (λ v. tails.Left v) (number_is v 8 w.0))
  | inr w ↦ absurd (let z = w.1 in cc)
]
shift_is (tails.Right v) s h = elim (chosen (is_number v 1) (Some shifts.Right1) None (Some s) h) [
  | inl w ↦ let e : shifts.Right1 ≡ s = cc in subst (λ s. tails.Right v ≡ tail_with s) e (ap (λ v. tails.Right v) (number_is v 1 w.0))
  | inr w ↦ absurd (let z = w.1 in cc)
]

pub coding_again : (m : Machine) (body : List Token) (t : Tail) (o : Operation) → IsCoded m body t o → coding_of m body t ≡ Some o
coding_again m body t o c =
    let s : shift_of t ≡ Some o.shift = ap shift_of c.shifted ∙ shift_again o.shift in
    let f = form_again m body o c.fitting c.spelled in
    let fit : fits m (work o.op o.a o.b) ≡ true = c.fitting in
    rw (s, f, fit) refl

pub coding_is : (m : Machine) (body : List Token) (t : Tail) (o : Operation) → coding_of m body t ≡ Some o → IsCoded m body t o
coding_is m body t o h =
    let s = bound (with_shift (option_and_then (checked m) (operation_in m body))) (shift_of t) o h in
    let p = mapped (λ (p : Operation). record p { shift = s.0 }) (option_and_then (checked m) (operation_in m body)) o s.2 in
    let f = bound (checked m) (operation_in m body) p.0 p.1 in
    elim (chosen (fits m f.0) (Some f.0) None (Some p.0) f.2) [
      | inl w ↦
          let e : f.0 ≡ p.0 = cc in
          let fit : fits m p.0 ≡ true = subst (λ q. fits m q ≡ true) e w.0 in
          let is : IsOneOf body (spellings m p.0) = subst (λ q. IsOneOf body (spellings m q)) e (form_is m body f.0 f.1) in
          let c : IsCoded m body t (record p.0 { shift = s.0 }) = record { fitting = fit; spelled = is; shifted = shift_is t s.0 s.1 } in
          subst (IsCoded m body t) p.2 c
      | inr w ↦ absurd (let z = w.1 in cc)
    ]
