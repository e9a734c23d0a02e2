-- The canonical assignment of a part is an assignment of its operation to its destinations.
use Rattle.mal_print.proofs.Common.{◌≡◌, ℕ, Bool, true, false, List, [], ◌∷◌, Option, Some, None, length, refl, sym, ap, subst, ◌∙◌, inl, nat_lt, ◌&&◌, ◌==◌}
use Rattle.mal_print.proofs.Common.{AllByRecursion as Each, list_all, agree_below_at, and_from, and_parts, eqb-true, ltb-true, Machine, Mic1, AluOp, BusSource}
use Rattle.mal_print.proofs.Common.{Shift, Mem, Part, row, fits_side, may_be_a, may_be_b, may_fetch, Word, Token, Operation, Assignment, Next}
use Rattle.micro_word.specs.declared.statement.AluOp.TheVariants as ops
use Rattle.micro_word.specs.declared.statement.BusSource.TheVariants as bus
use Rattle.micro_word.specs.declared.statement.Shift.TheVariants as shifts
use Rattle.micro_word.specs.declared.statement.Test.TheVariants as tests
use Rattle.mal_line.specs.declared.next.Next.TheVariants as nexts
use Rattle.mal_line.specs.Expressions as table
use Rattle.mal_line.specs.Prelude.{fits, source_word, spelling, tail_with, dest_bits, is_dest, is_expr, is_expr_word, is_filled, IsAssignment}
use Rattle.mal_print.specs.Prelude.{all_dests, chain, dests_of, has_dest, heads, is_absent, is_nothing, is_unshifted, is_zero, tested}
use Rattle.mal_print.proofs.Each.{each_spelling, Expressed}
use Rattle.mal_print.proofs.Fitting.{filtered, Fits}

-- ---- destinations

-- a mask of nine bits is that of its destinations
pub mask : (d : ℕ) → nat_lt d 512 ≡ true → dest_bits 0 (dests_of d) ≡ d
mask d h = eqb-true (dest_bits 0 (dests_of d)) d (agree_below_at (λ d. dest_bits 0 (dests_of d) == d) (λ d. true) 512 d refl (ltb-true d 512 h))

tested_dest : (next : Next Token) → is_dest (tested next) ≡ true
tested_dest (nexts.Branch tests.N high low) = refl
tested_dest _ = refl

tested_bit : (next : Next Token) → dest_bits 0 (tested next ∷ []) ≡ 0
tested_bit (nexts.Branch tests.N high low) = refl
tested_bit _ = refl

heads_dests : (ws : List Word) (next : Next Token) → list_all is_dest ws ≡ true → list_all is_dest (heads ws next) ≡ true
heads_dests [] next h = ap (λ b. b && true) (tested_dest next)
heads_dests (w ∷ ws) next h = h

heads_filled : (ws : List Word) (next : Next Token) → is_filled (heads ws next) ≡ true
heads_filled [] next = refl
heads_filled (w ∷ ws) next = refl

heads_bits : (ws : List Word) (next : Next Token) → dest_bits 0 (heads ws next) ≡ dest_bits 0 ws
heads_bits [] next = tested_bit next
heads_bits (w ∷ ws) next = refl

-- ---- expressions

source_expr : (x : BusSource) → is_expr_word (source_word x) ≡ true
source_expr bus.Mdr = refl
source_expr _ = refl

expr_side : (o : Option BusSource) → Each (λ t. is_expr t ≡ true) (table.side o)
expr_side None = tt
expr_side (Some x) = (source_expr x, tt)

all_expr : (ts : List Token) → Each (λ t. is_expr t ≡ true) ts → list_all is_expr ts ≡ true
all_expr [] h = refl
all_expr (t ∷ ts) h = ap (λ b. b && list_all is_expr ts) h.0 ∙ all_expr ts h.1

spelling_expr : (op : AluOp) (a b : Option BusSource) → list_all is_expr (spelling op (table.side a) (table.side b)) ≡ true
spelling_expr op a b =
    let e : Expressed (λ t. is_expr t ≡ true) = record { plus = refl; minus = refl; zero = refl; one = refl; inverse = refl; both = refl; either = refl } in
    all_expr (spelling op (table.side a) (table.side b)) (each_spelling (λ t. is_expr t ≡ true) e op a b (expr_side a) (expr_side b))

-- ---- what the part computes

-- nothing stands where the operation uses none
pub unused : (may : BusSource → Bool) (o : Option BusSource) → fits_side false may o ≡ true → o ≡ None
unused may None h = refl
unused may (Some x) h = absurd (cc)

-- what the part computes
abbrev pub operation_of : Part → Operation
operation_of part = record { op = part.op; a = part.a; b = part.b; shift = part.shift }

operation_fits : (m : Machine) (part : Part) → Fits m part → fits m (operation_of part) ≡ true
operation_fits m part h =
    and_from _ _ (and_from _ _ (and_from _ _ (and_from _ _ h.op h.a) h.b) h.mixed) (no_fetch m)
  where
    no_fetch : (m : Machine) → may_fetch m false ≡ true
    no_fetch Mic1 = refl
    no_fetch _ = refl

filled_spelling : (m : Machine) (op : AluOp) (a b : Option BusSource) → fits_side (row op).uses_a (may_be_a m) a ≡ true → fits_side (row op).uses_b (may_be_b m) b ≡ true → (length (spelling op (table.side a) (table.side b)) == 0) ≡ false
filled_spelling m ops.A None None f g = cc
filled_spelling m ops.A None (Some y) f g = cc
filled_spelling m ops.A (Some x) None f g = cc
filled_spelling m ops.A (Some x) (Some y) f g = cc
filled_spelling m _ None None f g = cc
filled_spelling m _ None (Some y) f g = cc
filled_spelling m _ (Some x) None f g = cc
filled_spelling m _ (Some x) (Some y) f g = cc

abbrev pub assignment_of : Part → Assignment
assignment_of part = record { dests = part.dests; operation = Some (operation_of part) }

pub chain_is : (m : Machine) (part : Part) (next : Next Token) → Fits m part → IsAssignment m (chain part next) (assignment_of part)
chain_is m part next h = record {
  dests = heads (dests_of part.dests) next;
  body = spelling part.op (table.side part.a) (table.side part.b);
  tail = tail_with part.shift;
  are = heads_dests (dests_of part.dests) next (filtered is_dest (has_dest part.dests) all_dests refl);
  some = heads_filled (dests_of part.dests) next;
  expr = spelling_expr part.op part.a part.b;
  not_empty = filled_spelling m part.op part.a part.b h.a h.b;
  spelled = refl;
  bits = sym (heads_bits (dests_of part.dests) next ∙ mask part.dests h.dests);
  coded = record { fitting = operation_fits m part h; spelled = inl refl; shifted = refl };
}

-- ---- nothing at all

is_none : (ws : List Word) → is_nothing ws ≡ true → ws ≡ []
is_none [] h = refl
is_none (w ∷ ws) h = absurd (cc)

zero_op : (op : AluOp) → is_zero op ≡ true → op ≡ ops.Zero
zero_op ops.Zero h = refl
zero_op _ h = absurd (cc)

no_shift : (s : Shift) → is_unshifted s ≡ true → s ≡ shifts.None
no_shift shifts.None h = refl
no_shift _ h = absurd (cc)

-- a part without assignment
abbrev pub bare : Part → Part
bare part = record { dests = 0; op = ops.Zero; a = None; b = None; shift = shifts.None; mem = part.mem; fetch = part.fetch }

same_part : (d d2 : ℕ) (o o2 : AluOp) (a a2 b b2 : Option BusSource) (s s2 : Shift) (mem : Mem) (fetch : Bool) → d ≡ d2 → o ≡ o2 → a ≡ a2 → b ≡ b2 → s ≡ s2
    → ◌≡◌ {A = Part} (record { dests = d; op = o; a = a; b = b; shift = s; mem = mem; fetch = fetch }) (record { dests = d2; op = o2; a = a2; b = b2; shift = s2; mem = mem; fetch = fetch })
same_part d d2 o o2 a a2 b b2 s s2 mem fetch e f g h i = rw (e, f, g, h, i) refl

pub absent_bare : (m : Machine) (part : Part) → Fits m part → is_absent part ≡ true → bare part ≡ part
absent_bare m part h e =
    let p = and_parts (is_nothing (dests_of part.dests)) (is_zero part.op && is_unshifted part.shift) e in
    let q = and_parts (is_zero part.op) (is_unshifted part.shift) p.1 in
    let o = zero_op part.op q.0 in
    same_part 0 part.dests ops.Zero part.op None part.a None part.b shifts.None part.shift part.mem part.fetch
    (ap (dest_bits 0) (sym (is_none (dests_of part.dests) p.0)) ∙ mask part.dests h.dests)
    (sym o)
    (sym (unused (may_be_a m) part.a (subst (λ o. fits_side (row o).uses_a (may_be_a m) part.a ≡ true) o h.a)))
    (sym (unused (may_be_b m) part.b (subst (λ o. fits_side (row o).uses_b (may_be_b m) part.b ≡ true) o h.b)))
    (sym (no_shift part.shift q.1))
