-- How many bytes the tokens of a line take at most.
use Rattle.mal_print.proofs.Common.{◌≡◌, ◌+◌, ◌≤◌, Bool, true, false, List, [], ◌∷◌, ◌++◌, length, Option, Some, None, ℤ, pos, negsuc, FitsSigned, w64, refl}
use Rattle.mal_print.proofs.Common.{arith, cond, nat_lt, filter, decimal, signed_decimal, cond_both, nat_tests, length-decimal-le, signed_decimal_short}
use Rattle.mal_print.proofs.Common.{Machine, AluOp, BusSource, Shift, Mem, Part, Word, Sign, Token, sign_text, word_text, Next}
use Rattle.micro_word.specs.declared.statement.AluOp.TheVariants as ops
use Rattle.micro_word.specs.declared.statement.Shift.TheVariants as shifts
use Rattle.micro_word.specs.declared.statement.Mem.TheVariants as mems
use Rattle.micro_word.specs.declared.statement.Test.TheVariants as tests
use Rattle.mal_tokens.specs.declared.word.Word.TheVariants as words
use Rattle.mal_tokens.specs.declared.sign.Sign.TheVariants as signs
use Rattle.mal_tokens.specs.declared.token.Token.TheVariants as tokens
use Rattle.mal_line.specs.declared.next.Next.TheVariants as nexts
use Rattle.mal_line.specs.Prelude.{side, source_word, spelling, tail_with, dest_tokens, tail_tokens}
use Rattle.mal_print.specs.Prelude.{address_of, number_width, token_width, width, all_dests, assignment, beside, byte_word, chain, dests_of, fetches, has_dest, heads, is_absent, leads, memory, or_semicolon, parts, tested, value}

-- ---- numbers and other tokens

pub short_decimal : (v : ℤ) → FitsSigned w64 v → length (signed_decimal v) + 1 ≤ number_width (address_of v)
short_decimal (pos n) fits = go (nat_lt n 4096) refl
  where
    all : length (decimal n) ≤ 20
    all = signed_decimal_short (pos n) fits

    go : (b : Bool) → nat_lt n 4096 ≡ b → length (decimal n) + 1 ≤ number_width (cond b (Some n) None)
    go true e =
        let few : n + 1 ≤ 4096 = grind (arith, nat_tests) in
        let short = length-decimal-le 4 n (omega arith) (omega arith) (omega arith) in
        omega (arith, short)
    go false e = omega (arith, all)
short_decimal (negsuc n) fits = let all = signed_decimal_short (negsuc n) fits in omega (arith, all)

word_width : (w : Word) → 1 + length (word_text w) ≤ 6
word_width words.Mar = omega arith
word_width _ = omega arith

sign_width : (s : Sign) → 1 + length (sign_text s) ≤ 9
sign_width signs.Equals = omega arith
sign_width _ = omega arith

most : (t : Token) → token_width t ≤ 65
most (tokens.Word w) = omega (arith, word_width w)
most (tokens.Sign s) = omega (arith, sign_width s)
most (tokens.Name n) = omega arith
most (tokens.Number v) = elim (address_of v) as (λ o. number_width o ≤ 65) [ None ↦ omega arith | Some address ↦ omega arith ]

pub lone_width : (ts : List Token) → width (or_semicolon ts) ≤ width ts + 2
lone_width [] = omega arith
lone_width (t ∷ ts) = omega arith

-- ---- the parts of a statement

width_append : (xs ys : List Token) → width (xs ++ ys) ≡ width xs + width ys
width_append [] ys = omega arith
width_append (x ∷ xs) ys = omega (arith, width_append xs ys)

width_beside : (xs ys : List Token) → width (beside xs ys) ≤ width xs + 2 + width ys
width_beside [] ys = omega arith
width_beside (x ∷ xs) [] = omega arith
width_beside (x ∷ xs) (y ∷ ys) = omega (arith, width_append (x ∷ xs) (tokens.Sign signs.Semicolon ∷ y ∷ ys))

dests_width : (p : Word → Bool) (ws : List Word) → width (dest_tokens (filter p ws)) ≤ width (dest_tokens ws)
dests_width p [] = omega arith
dests_width p (w ∷ ws) =
    let rest = dests_width p ws in
    cond_both (p w) (w ∷ filter p ws) (filter p ws) (λ xs. width (dest_tokens xs) ≤ width (dest_tokens (w ∷ ws)))
    (λ e. omega (arith, rest)) (λ e. omega (arith, rest))

heads_width : (ws : List Word) (next : Next Token) → width (dest_tokens ws) ≤ 49 → width (dest_tokens (heads ws next)) ≤ 49
heads_width [] next h = omega (arith, word_width (tested next))
heads_width (w ∷ ws) next h = h

side_width : (o : Option BusSource) → width (side o) ≤ 6
side_width None = omega arith
side_width (Some x) = omega (arith, word_width (source_word x))

spelling_width : (op : AluOp) (a b : List Token) → width a ≤ 6 → width b ≤ 6 → width (spelling op a b) ≤ 22
spelling_width ops.A a b h g = omega arith
spelling_width _ a b h g = grind (arith, width_append)

tail_width : (s : Shift) → width (tail_tokens (tail_with s)) ≤ 9
tail_width shifts.None = omega arith
tail_width _ = omega arith

assignment_width : (part : Part) (next : Next Token) → width (assignment part next) ≤ 80
assignment_width part next =
    let ws = dests_of part.dests in
    let d = heads_width ws next (dests_width (has_dest part.dests) all_dests) in
    let s = spelling_width part.op (side part.a) (side part.b) (side_width part.a) (side_width part.b) in
    let e = width_append (dest_tokens (heads ws next)) (value part) in
    let f = width_append (spelling part.op (side part.a) (side part.b)) (tail_tokens (tail_with part.shift)) in
    cond_both (is_absent part) [] (chain part next) (λ ts. width ts ≤ 80) (λ x. omega arith) (λ x. omega (arith, d, s, tail_width part.shift, e, f))

memory_width : (mem : Mem) → width (memory mem) ≤ 3
memory_width mems.None = omega arith
memory_width _ = omega arith

fetches_width : (fetch : Bool) → width (fetches fetch) ≤ 6
fetches_width false = omega arith
fetches_width true = omega arith

leads_width : (m : Machine) (next : Next Token) → width (leads m next) ≤ 156
leads_width m nexts.Following = omega arith
leads_width m (nexts.Goto to) = omega (arith, most to)
leads_width m (nexts.Dispatch false) = omega (arith, word_width (byte_word m))
leads_width m (nexts.Dispatch true) = omega (arith, word_width (byte_word m))
leads_width m (nexts.Branch tests.N high low) = omega (arith, most high, most low)
leads_width m (nexts.Branch tests.Z high low) = omega (arith, most high, most low)

pub parts_width : (m : Machine) (part : Part) (next : Next Token) → width (parts m part next) ≤ 251
parts_width m part next =
    let a = assignment part next in
    let b = beside a (memory part.mem) in
    let c = beside b (fetches part.fetch) in
    let e = width_beside a (memory part.mem) in
    let f = width_beside b (fetches part.fetch) in
    let g = width_beside c (leads m next) in
    omega (arith, e, f, g, assignment_width part next, memory_width part.mem, fetches_width part.fetch, leads_width m next)
