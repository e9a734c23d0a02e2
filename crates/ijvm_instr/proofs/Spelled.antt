-- Instructions and their bytes correspond one to one, except for the second spelling of IOR.
use Rattle.std.proofs.Common.{◌≡◌, ◌⊎◌, ◌<◌, ◌≤◌, ℕ, zero, suc, All, ℤ, nat_le, FitsSigned, ◌+◌, ◌*◌, ◌/◌, ◌%◌, Bool, true, false, if◌then◌else◌, ◌==◌, List, [], ◌∷◌, ◌++◌, length, take, drop, append_assoc, length-append, slice_index, Option, Some, None, refl, sym, ap, ◌∙◌, inl, inr, arith, subst}
use Rattle.std.proofs.lemmas.Bool.Decides.{nat_tests}
use Rattle.std.proofs.lemmas.List.{drop_more}
use Rattle.std.specs.Int.{w8, w16, cast_signed, cast_unsigned}
use Rattle.std.proofs.lemmas.Int.{of_z-to_z, to_z-of_z}
use Rattle.std.proofs.Math.Facts.{sfits_to_z, Fits-of_lt}
use Rattle.ijvm_instr.specs.declared.instr.Instr.{Instr}
use Rattle.ijvm_instr.specs.declared.instr.Instr.TheVariants.{Nop, Bipush, LdcW, Iload, Istore, Pop, Dup, Swap, Iadd, Isub, Iand, Iinc, Ifeq, Iflt, IfIcmpeq, Goto, Ireturn, Ior, Invokevirtual, WideIload, WideIstore, WideIinc, In, Out, Err, Halt}
use Rattle.ijvm_instr.specs.Prelude.{of_bytes, begun_at, instr_at, whole, spelling, size_of, row_of, SpellsInstr, StandAt, IsInstr, byte_below, high, low, size_least, whole_half}

chosen_by : (P : Instr → Type 0) (x y : ℕ) (j : Instr) (rest : Option Instr) (i : Instr) (t : Bool) → (x == y) ≡ t →
    (x ≡ y → P j) → (rest ≡ Some i → P i) → (if t then Some j else rest) ≡ Some i → P i
chosen_by P x y j rest i true is here there e =
    let same : x ≡ y = grind (arith, nat_tests) in
    let found : j ≡ i = cc in
    subst P found (here same)
chosen_by P x y j rest i false is here there e = there e

-- a row of the decoder: what holds of the row's instruction, and of those of the rows after it, holds of the one that is found
pub chosen : (P : Instr → Type 0) (x y : ℕ) (j : Instr) (rest : Option Instr) (i : Instr) →
    (x ≡ y → P j) → (rest ≡ Some i → P i) → (if x == y then Some j else rest) ≡ Some i → P i
chosen P x y j rest i here there e = chosen_by P x y j rest i (x == y) refl here there e

-- the six bytes begin with a spelling of the instruction
abbrev pub IsRead : ℕ → ℕ → ℕ → ℕ → ℕ → ℕ → Instr → Type 0
IsRead a b c d e f i = (take (size_of (row_of i)) (a ∷ b ∷ c ∷ d ∷ e ∷ f ∷ []) ≡ spelling i) ⊎ ((i ≡ Ior) × (a ≡ 0x80))

back8 : (b : ℕ) → b < 256 → cast_unsigned w8 (cast_signed w8 b) ≡ b
back8 b h = of_z-to_z w8 b h

back16 : (b c : ℕ) → b < 256 → c < 256 → cast_unsigned w16 (cast_signed w16 (256 * b + c)) ≡ 256 * b + c
back16 b c hb hc =
    let fits : 256 * b + c < 65536 = omega arith in
    of_z-to_z w16 (256 * b + c) fits

chosen_wide_by : (P : Instr → Type 0) (x y : ℕ) (some rest : Option Instr) (i : Instr) (t : Bool) → (x == y) ≡ t →
    (x ≡ y → some ≡ Some i → P i) → (rest ≡ Some i → P i) → (if t then some else rest) ≡ Some i → P i
chosen_wide_by P x y some rest i true is here there e =
    let same : x ≡ y = grind (arith, nat_tests) in
    here same e
chosen_wide_by P x y some rest i false is here there e = there e

chosen_wide : (P : Instr → Type 0) (x y : ℕ) (some rest : Option Instr) (i : Instr) →
    (x ≡ y → some ≡ Some i → P i) → (rest ≡ Some i → P i) → (if x == y then some else rest) ≡ Some i → P i
chosen_wide P x y some rest i here there e = chosen_wide_by P x y some rest i (x == y) refl here there e

half_fits : (b c : ℕ) → b < 256 → c < 256 → 256 * b + c < 65536
half_fits b c hb hc = omega arith

signed_byte_fits : (b : ℕ) → b < 256 → FitsSigned w8 (cast_signed w8 b)
signed_byte_fits b hb = sfits_to_z {w = w8} (Fits-of_lt {w = w8} hb)

signed_half_fits : (b c : ℕ) → b < 256 → c < 256 → FitsSigned w16 (cast_signed w16 (256 * b + c))
signed_half_fits b c hb hc = sfits_to_z {w = w16} (Fits-of_lt {w = w16} (half_fits b c hb hc))

-- the six bytes begin with a spelling of the instruction, whose operands are in the ranges of their types
abbrev pub IsFound : ℕ → ℕ → ℕ → ℕ → ℕ → ℕ → Instr → Type 0
IsFound a b c d e f i = IsRead a b c d e f i × IsInstr i

half_found : (a code b c : ℕ) → c < 256 → a ≡ code → a ∷ b ∷ c ∷ [] ≡ code ∷ (256 * b + c) / 256 ∷ (256 * b + c) % 256 ∷ []
half_found a code b c hc x = rw (x, high b c hc, low b c hc) refl

offset_found : (a code b c : ℕ) → b < 256 → c < 256 → a ≡ code →
    a ∷ b ∷ c ∷ [] ≡ code ∷ cast_unsigned w16 (cast_signed w16 (256 * b + c)) / 256 ∷ cast_unsigned w16 (cast_signed w16 (256 * b + c)) % 256 ∷ []
offset_found a code b c hb hc x = rw (back16 b c hb hc) (half_found a code b c hc x)

wide_found : (a b c d e f : ℕ) (i : Instr) → c < 256 → d < 256 → e < 256 → f < 256 → a ≡ 0xC4 →
    (if b == 0x15 then Some (WideIload (256 * c + d)) else (if b == 0x36 then Some (WideIstore (256 * c + d)) else
    (if b == 0x84 then Some (WideIinc (256 * c + d) (cast_signed w16 (256 * e + f))) else None))) ≡ Some i → IsFound a b c d e f i
wide_found a b c d e f i hc hd he hf is =
    let h : (256 * c + d) / 256 ≡ c = high c d hd in
    let l : (256 * c + d) % 256 ≡ d = low c d hd in
    let hn : (256 * e + f) / 256 ≡ e = high e f hf in
    let ln : (256 * e + f) % 256 ≡ f = low e f hf in
    let s : cast_unsigned w16 (cast_signed w16 (256 * e + f)) ≡ 256 * e + f = back16 e f he hf in
    chosen (IsFound a b c d e f) b 0x15 (WideIload (256 * c + d)) _ i (λ x. (inl (cc), half_fits c d hc hd))
    (chosen (IsFound a b c d e f) b 0x36 (WideIstore (256 * c + d)) _ i (λ x. (inl (cc), half_fits c d hc hd))
    (chosen (IsFound a b c d e f) b 0x84 (WideIinc (256 * c + d) (cast_signed w16 (256 * e + f))) _ i
    (λ x. (inl (rw s (cc)), (half_fits c d hc hd, signed_half_fits e f he hf))) (λ x. cc)))

of_bytes-found : (a b c d e f : ℕ) (i : Instr) → b < 256 → c < 256 → d < 256 → e < 256 → f < 256 → of_bytes a b c d e f ≡ Some i → IsFound a b c d e f i
unfolding of_bytes
of_bytes-found a b c d e f i hb hc hd he hf =
    chosen (IsFound a b c d e f) a 0x00 Nop _ i (λ x. (inl (ap (λ y. y ∷ []) x), tt))
    (chosen (IsFound a b c d e f) a 0x10 (Bipush (cast_signed w8 b)) _ i (λ x. (inl (let s = back8 b hb in cc), signed_byte_fits b hb))
    (chosen (IsFound a b c d e f) a 0x13 (LdcW (256 * b + c)) _ i (λ x. (inl (half_found a 0x13 b c hc x), half_fits b c hb hc))
    (chosen (IsFound a b c d e f) a 0x15 (Iload b) _ i (λ x. (inl (ap (λ y. y ∷ b ∷ []) x), hb))
    (chosen (IsFound a b c d e f) a 0x36 (Istore b) _ i (λ x. (inl (ap (λ y. y ∷ b ∷ []) x), hb))
    (chosen (IsFound a b c d e f) a 0x57 Pop _ i (λ x. (inl (ap (λ y. y ∷ []) x), tt))
    (chosen (IsFound a b c d e f) a 0x59 Dup _ i (λ x. (inl (ap (λ y. y ∷ []) x), tt))
    (chosen (IsFound a b c d e f) a 0x5F Swap _ i (λ x. (inl (ap (λ y. y ∷ []) x), tt))
    (chosen (IsFound a b c d e f) a 0x60 Iadd _ i (λ x. (inl (ap (λ y. y ∷ []) x), tt))
    (chosen (IsFound a b c d e f) a 0x64 Isub _ i (λ x. (inl (ap (λ y. y ∷ []) x), tt))
    (chosen (IsFound a b c d e f) a 0x7E Iand _ i (λ x. (inl (ap (λ y. y ∷ []) x), tt))
    (chosen (IsFound a b c d e f) a 0x80 Ior _ i (λ x. (inr (refl, x), tt))
    (chosen (IsFound a b c d e f) a 0x84 (Iinc b (cast_signed w8 c)) _ i (λ x. (inl (let s = back8 c hc in cc), (hb, signed_byte_fits c hc)))
    (chosen (IsFound a b c d e f) a 0x99 (Ifeq (cast_signed w16 (256 * b + c))) _ i (λ x. (inl (offset_found a 0x99 b c hb hc x), signed_half_fits b c hb hc))
    (chosen (IsFound a b c d e f) a 0x9B (Iflt (cast_signed w16 (256 * b + c))) _ i (λ x. (inl (offset_found a 0x9B b c hb hc x), signed_half_fits b c hb hc))
    (chosen (IsFound a b c d e f) a 0x9F (IfIcmpeq (cast_signed w16 (256 * b + c))) _ i (λ x. (inl (offset_found a 0x9F b c hb hc x), signed_half_fits b c hb hc))
    (chosen (IsFound a b c d e f) a 0xA7 (Goto (cast_signed w16 (256 * b + c))) _ i (λ x. (inl (offset_found a 0xA7 b c hb hc x), signed_half_fits b c hb hc))
    (chosen (IsFound a b c d e f) a 0xAC Ireturn _ i (λ x. (inl (ap (λ y. y ∷ []) x), tt))
    (chosen (IsFound a b c d e f) a 0xB0 Ior _ i (λ x. (inl (ap (λ y. y ∷ []) x), tt))
    (chosen (IsFound a b c d e f) a 0xB6 (Invokevirtual (256 * b + c)) _ i (λ x. (inl (half_found a 0xB6 b c hc x), half_fits b c hb hc))
    (chosen_wide (IsFound a b c d e f) a 0xC4 _ _ i (wide_found a b c d e f i hc hd he hf)
    (chosen (IsFound a b c d e f) a 0xFC In _ i (λ x. (inl (ap (λ y. y ∷ []) x), tt))
    (chosen (IsFound a b c d e f) a 0xFD Out _ i (λ x. (inl (ap (λ y. y ∷ []) x), tt))
    (chosen (IsFound a b c d e f) a 0xFE Err _ i (λ x. (inl (ap (λ y. y ∷ []) x), tt))
    (chosen (IsFound a b c d e f) a 0xFF Halt _ i (λ x. (inl (ap (λ y. y ∷ []) x), tt))
    (λ x. cc)))))))))))))))))))))))))

-- a number of two bytes is made of them
pub from_half : (n b c : ℕ) → b ≡ n / 256 → c ≡ n % 256 → 256 * b + c ≡ n
from_half n b c e f = rw (e, f, whole_half n) refl

from_offset : (z : ℤ) (b c : ℕ) → FitsSigned w16 z → b ≡ cast_unsigned w16 z / 256 → c ≡ cast_unsigned w16 z % 256 → cast_signed w16 (256 * b + c) ≡ z
from_offset z b c fits e f = ap (cast_signed w16) (from_half (cast_unsigned w16 z) b c e f) ∙ to_z-of_z w16 z fits

first : {x y : ℕ} {xs ys : List ℕ} → x ∷ xs ≡ y ∷ ys → x ≡ y
first e = cc

-- six bytes that begin with an instruction's spelling are read as that instruction
pub of_bytes-spelling : (a b c d e f : ℕ) (i : Instr) → IsInstr i → take (size_of (row_of i)) (a ∷ b ∷ c ∷ d ∷ e ∷ f ∷ []) ≡ spelling i → of_bytes a b c d e f ≡ Some i
unfolding of_bytes
of_bytes-spelling a b c d e f Nop real is = rw (first is) refl
of_bytes-spelling a b c d e f (Bipush z) real is =
    let ea : a ≡ 0x10 = cc in let eb : b ≡ cast_unsigned w8 z = cc in rw (ea, eb) (ap (λ (x : ℤ). Some (Bipush x)) (to_z-of_z w8 z real))
of_bytes-spelling a b c d e f (LdcW k) real is =
    let ea : a ≡ 0x13 = cc in let eb : b ≡ k / 256 = cc in let ec : c ≡ k % 256 = cc in rw ea (ap (λ (x : ℕ). Some (LdcW x)) (from_half k b c eb ec))
of_bytes-spelling a b c d e f (Iload k) real is = let ea : a ≡ 0x15 = cc in let eb : b ≡ k = cc in rw (ea, eb)
of_bytes-spelling a b c d e f (Istore k) real is = let ea : a ≡ 0x36 = cc in let eb : b ≡ k = cc in rw (ea, eb)
of_bytes-spelling a b c d e f (Iinc k z) real is =
    let ea : a ≡ 0x84 = cc in let eb : b ≡ k = cc in let ec : c ≡ cast_unsigned w8 z = cc in rw (ea, eb, ec) (ap (λ (x : ℤ). Some (Iinc k x)) (to_z-of_z w8 z real.1))
of_bytes-spelling a b c d e f (Ifeq z) real is =
    let ea : a ≡ 0x99 = cc in let eb : b ≡ cast_unsigned w16 z / 256 = cc in let ec : c ≡ cast_unsigned w16 z % 256 = cc in
    rw ea (ap (λ (x : ℤ). Some (Ifeq x)) (from_offset z b c real eb ec))
of_bytes-spelling a b c d e f (Iflt z) real is =
    let ea : a ≡ 0x9B = cc in let eb : b ≡ cast_unsigned w16 z / 256 = cc in let ec : c ≡ cast_unsigned w16 z % 256 = cc in
    rw ea (ap (λ (x : ℤ). Some (Iflt x)) (from_offset z b c real eb ec))
of_bytes-spelling a b c d e f (IfIcmpeq z) real is =
    let ea : a ≡ 0x9F = cc in let eb : b ≡ cast_unsigned w16 z / 256 = cc in let ec : c ≡ cast_unsigned w16 z % 256 = cc in
    rw ea (ap (λ (x : ℤ). Some (IfIcmpeq x)) (from_offset z b c real eb ec))
of_bytes-spelling a b c d e f (Goto z) real is =
    let ea : a ≡ 0xA7 = cc in let eb : b ≡ cast_unsigned w16 z / 256 = cc in let ec : c ≡ cast_unsigned w16 z % 256 = cc in
    rw ea (ap (λ (x : ℤ). Some (Goto x)) (from_offset z b c real eb ec))
of_bytes-spelling a b c d e f (Invokevirtual k) real is =
    let ea : a ≡ 0xB6 = cc in let eb : b ≡ k / 256 = cc in let ec : c ≡ k % 256 = cc in rw ea (ap (λ (x : ℕ). Some (Invokevirtual x)) (from_half k b c eb ec))
of_bytes-spelling a b c d e f (WideIload k) real is =
    let ea : a ≡ 0xC4 = cc in let eb : b ≡ 0x15 = cc in let ec : c ≡ k / 256 = cc in let ed : d ≡ k % 256 = cc in
    rw (ea, eb) (ap (λ (x : ℕ). Some (WideIload x)) (from_half k c d ec ed))
of_bytes-spelling a b c d e f (WideIstore k) real is =
    let ea : a ≡ 0xC4 = cc in let eb : b ≡ 0x36 = cc in let ec : c ≡ k / 256 = cc in let ed : d ≡ k % 256 = cc in
    rw (ea, eb) (ap (λ (x : ℕ). Some (WideIstore x)) (from_half k c d ec ed))
of_bytes-spelling a b c d e f (WideIinc k z) real is =
    let ea : a ≡ 0xC4 = cc in let eb : b ≡ 0x84 = cc in let ec : c ≡ k / 256 = cc in let ed : d ≡ k % 256 = cc in
    let ee : e ≡ cast_unsigned w16 z / 256 = cc in let ef : f ≡ cast_unsigned w16 z % 256 = cc in
    let index : 256 * c + d ≡ k = from_half k c d ec ed in
    let number : cast_signed w16 (256 * e + f) ≡ z = from_offset z e f real.1 ee ef in
    rw (ea, eb) (cc)
of_bytes-spelling a b c d e f _ real is = rw (first is) refl

-- whether an instruction is whole
whole_by : (many at : ℕ) (j i : Instr) (t : Bool) → nat_le (at + size_of (row_of j)) many ≡ t → (if t then Some j else None) ≡ Some i →
    (j ≡ i) × (at + size_of (row_of i) ≤ many)
whole_by many at j i true is e =
    let same : j ≡ i = cc in
    let fits : at + size_of (row_of j) ≤ many = grind (arith, nat_tests) in
    (same, subst (λ (k : Instr). at + size_of (row_of k) ≤ many) same fits)
whole_by many at j i false is e = cc

pub whole-some : (many at : ℕ) (o : Option Instr) (i : Instr) → whole many at o ≡ Some i → (o ≡ Some i) × (at + size_of (row_of i) ≤ many)
whole-some many at None i e = cc
whole-some many at (Some j) i e =
    let h : (j ≡ i) × (at + size_of (row_of i) ≤ many) = whole_by many at j i (nat_le (at + size_of (row_of j)) many) refl e in
    (ap (λ (k : Instr). Some k) h.0, h.1)

pub whole-fits : (many at : ℕ) (i : Instr) → at + size_of (row_of i) ≤ many → whole many at (Some i) ≡ Some i
whole-fits many at i h = grind (arith, nat_tests)

-- this many bytes from an address on
abbrev bytes_from : List ℕ → ℕ → ℕ → List ℕ
bytes_from text at zero = []
bytes_from text at (suc n) = slice_index text at ∷ bytes_from text (at + 1) n

take-bytes_from : (text : List ℕ) (at n m : ℕ) → n ≤ m → take n (bytes_from text at m) ≡ bytes_from text at n
take-bytes_from text at zero m h = refl
take-bytes_from text at (suc n) zero h = absurd (omega arith)
take-bytes_from text at (suc n) (suc m) h = ap (λ xs. slice_index text at ∷ xs) (take-bytes_from text (at + 1) n m (omega arith))

-- the six bytes at an address
abbrev front : List ℕ → ℕ → List ℕ
front text at =
    slice_index text at ∷ slice_index text (at + 1) ∷ slice_index text (at + 2) ∷ slice_index text (at + 3) ∷ slice_index text (at + 4) ∷ slice_index text (at + 5) ∷ []

take-front : (text : List ℕ) (at n : ℕ) → n ≤ 6 → take n (front text at) ≡ bytes_from text at n
take-front text at n h =
    let two : at + 1 + 1 ≡ at + 2 = omega arith in
    let three : at + 1 + 1 + 1 ≡ at + 3 = omega arith in
    let four : at + 1 + 1 + 1 + 1 ≡ at + 4 = omega arith in
    let five : at + 1 + 1 + 1 + 1 + 1 ≡ at + 5 = omega arith in
    let same : front text at ≡ bytes_from text at 6 = cc in
    ap (take n) same ∙ take-bytes_from text at n 6 h

-- bytes that an address begins with stand there
stand_from : (text : List ℕ) (at : ℕ) (bytes : List ℕ) → bytes_from text at (length bytes) ≡ bytes → at + length bytes ≤ length text → StandAt text at bytes
stand_from text at [] e h = omega arith
stand_from text at (x ∷ xs) e h = ((cc), stand_from text (at + 1) xs (cc) (omega arith))

-- the bytes from an address on are those that stand there
bytes_from-stand : (text : List ℕ) (at : ℕ) (bytes : List ℕ) → StandAt text at bytes → bytes_from text at (length bytes) ≡ bytes
bytes_from-stand text at [] h = refl
bytes_from-stand text at (x ∷ xs) h =
    let first : slice_index text at ≡ x = h.0 in
    let rest : bytes_from text (at + 1) (length xs) ≡ xs = bytes_from-stand text (at + 1) xs h.1 in
    cc

stand_fits : (text : List ℕ) (at : ℕ) (bytes : List ℕ) → StandAt text at bytes → at + length bytes ≤ length text
stand_fits text at [] h = omega arith
stand_fits text at (x ∷ bytes) h = let rest : at + 1 + length bytes ≤ length text = stand_fits text (at + 1) bytes h.1 in omega arith

size_most : (i : Instr) → size_of (row_of i) ≤ 6
size_most Nop = omega arith
size_most _ = omega arith

read_at : (text : List ℕ) (at : ℕ) (i : Instr) → at + size_of (row_of i) ≤ length text →
    IsRead (slice_index text at) (slice_index text (at + 1)) (slice_index text (at + 2)) (slice_index text (at + 3)) (slice_index text (at + 4)) (slice_index text (at + 5)) i →
    (bytes : List ℕ) × SpellsInstr bytes i × StandAt text at bytes × (length bytes ≡ size_of (row_of i))
read_at text at i fits read =
    elim read [
      | inl e ↦ (spelling i, inl refl, stand_from text at (spelling i) (sym (take-front text at (size_of (row_of i)) (size_most i)) ∙ e) fits, refl)
      | inr e ↦ (
        0x80 ∷ [],
        inr (e.0, refl),
        (e.1, let one : 1 ≤ size_of (row_of i) = size_least i in omega arith),
        let one : size_of (row_of i) ≡ 1 = rw e.0 refl in cc,
      )
    ]

-- what is read at an address is spelled there
pub instr_at-read : (text : List ℕ) (at : ℕ) (i : Instr) → All (λ (b : ℕ). b < 256) text → instr_at text at ≡ Some i →
    (bytes : List ℕ) × SpellsInstr bytes i × StandAt text at bytes × (length bytes ≡ size_of (row_of i))
unfolding instr_at
instr_at-read text at i small e =
    let found : (begun_at text at ≡ Some i)
    × (at + size_of (row_of i) ≤ length text) = whole-some (length text) at _ i e in
    read_at text at i found.1
    (of_bytes-found _ _ _ _ _ _ i (byte_below text (at + 1) small) (byte_below text (at + 2) small) (byte_below text (at + 3) small)
    (byte_below text (at + 4) small) (byte_below text (at + 5) small) found.0).0

whole_spelled : (text : List ℕ) (at : ℕ) (i : Instr) → IsInstr i → StandAt text at (spelling i) → instr_at text at ≡ Some i
unfolding instr_at
whole_spelled text at i real stands =
    let read : begun_at text at ≡ Some i =
    of_bytes-spelling _ _ _ _ _ _ i real (take-front text at (size_of (row_of i)) (size_most i) ∙ bytes_from-stand text at (spelling i) stands) in
    ap (whole (length text) at) read ∙ whole-fits (length text) at i (stand_fits text at (spelling i) stands)

whole_second : (text : List ℕ) (at : ℕ) → StandAt text at (0x80 ∷ []) → instr_at text at ≡ Some Ior
unfolding instr_at of_bytes
whole_second text at stands =
    let first : slice_index text at ≡ 0x80 = stands.0 in
    let fits : at + 1 ≤ length text = stands.1 in
    rw first (whole-fits (length text) at Ior fits)

-- what is spelled at an address is read there
pub instr_at-spelled : (text : List ℕ) (at : ℕ) (i : Instr) (bytes : List ℕ) → IsInstr i → SpellsInstr bytes i → StandAt text at bytes → instr_at text at ≡ Some i
instr_at-spelled text at i bytes real spells stands =
    elim spells [
      | inl e ↦ whole_spelled text at i real (subst (StandAt text at) e stands)
      | inr e ↦ rw e.0 (whole_second text at (subst (StandAt text at) e.1 stands))
    ]

-- bytes that stand at an address are a part of the text
pub stand_take : (text : List ℕ) (at : ℕ) (bytes : List ℕ) → StandAt text at bytes → take (length bytes) (drop at text) ≡ bytes
stand_take text at [] h = refl
stand_take text at (x ∷ xs) h =
    let fits : at + 1 + length xs ≤ length text = stand_fits text (at + 1) xs h.1 in
    let inside : at < length text = omega arith in
    let more : drop at text ≡ slice_index text at ∷ drop (at + 1) text = drop_more text at 0 inside in
    let rest : take (length xs) (drop (at + 1) text) ≡ xs = stand_take text (at + 1) xs h.1 in
    let first : slice_index text at ≡ x = h.0 in
    rw (more, first, rest) refl

-- a part of a text stands there
pub part_stands : (before bytes after : List ℕ) → StandAt (before ++ (bytes ++ after)) (length before) bytes
part_stands before [] after = omega (arith, length-append before after)
part_stands before (x ∷ xs) after =
    let whole_text : (before ++ x ∷ []) ++ (xs ++ after) ≡ before ++ (x ∷ (xs ++ after)) = append_assoc before (x ∷ []) (xs ++ after) in
    let place : length (before ++ x ∷ []) ≡ length before + 1 = length-append before (x ∷ []) in
    let rest : StandAt ((before ++ x ∷ []) ++ (xs ++ after)) (length (before ++ x ∷ [])) xs = part_stands (before ++ x ∷ []) xs after in
    (get_or-append_seam before x (xs ++ after), subst (λ (at : ℕ). StandAt (before ++ (x ∷ (xs ++ after))) at xs) place (subst (λ (text : List ℕ). StandAt text (length (before ++ x ∷ [])) xs) whole_text rest))
  where
    get_or-append_seam : (before : List ℕ) (x : ℕ) (after : List ℕ) → slice_index (before ++ x ∷ after) (length before) ≡ x
    get_or-append_seam [] x after = refl
    get_or-append_seam (y ∷ ys) x after = get_or-append_seam ys x after

-- both spellings have the instruction's size
pub length-spelled : (i : Instr) (bytes : List ℕ) → SpellsInstr bytes i → length bytes ≡ size_of (row_of i)
length-spelled i bytes spells = elim spells [ inl e ↦ ap length e | inr e ↦ rw (e.0, e.1) refl ]

-- what an instruction's bytes and anything after them are read as
pub front-decoded : (bytes : List ℕ) (i : Instr) (front rest : List ℕ) → IsInstr i → SpellsInstr front i → bytes ≡ front ++ rest → instr_at bytes 0 ≡ Some i
front-decoded bytes i front rest real spells e =
    instr_at-spelled bytes 0 i front real spells (subst (λ (text : List ℕ). StandAt text 0 front) (sym e) (part_stands [] front rest))

-- the front of what is read
pub decoded-front : (bytes : List ℕ) (i : Instr) → All (λ (b : ℕ). b < 256) bytes → instr_at bytes 0 ≡ Some i →
    SpellsInstr (take (size_of (row_of i)) bytes) i × (size_of (row_of i) ≤ length bytes)
decoded-front bytes i small e =
    let read : (front : List ℕ) × SpellsInstr front i × StandAt bytes 0 front × (length front ≡ size_of (row_of i)) = instr_at-read bytes 0 i small e in
    let part : take (length read.0) bytes ≡ read.0 = stand_take bytes 0 read.0 read.2 in
    let fits : 0 + length read.0 ≤ length bytes = stand_fits bytes 0 read.0 read.2 in
    let size : length read.0 ≡ size_of (row_of i) = read.3 in
    (subst (λ (n : ℕ). SpellsInstr (take n bytes) i) size (subst (λ (xs : List ℕ). SpellsInstr xs i) (sym part) read.1), omega arith)

-- what is read at an address has operands in range
pub instr_at-real : (text : List ℕ) (at : ℕ) (i : Instr) → All (λ (b : ℕ). b < 256) text → instr_at text at ≡ Some i → IsInstr i
unfolding instr_at
instr_at-real text at i small e =
    let found : (begun_at text at ≡ Some i) × (at + size_of (row_of i) ≤ length text) = whole-some (length text) at _ i e in
    (of_bytes-found _ _ _ _ _ _ i (byte_below text (at + 1) small) (byte_below text (at + 2) small) (byte_below text (at + 3) small)
    (byte_below text (at + 4) small) (byte_below text (at + 5) small) found.0).1

-- what is read at an address ends inside the text
pub instr_at-ends : (text : List ℕ) (at : ℕ) (i : Instr) → instr_at text at ≡ Some i → at + size_of (row_of i) ≤ length text
unfolding instr_at
instr_at-ends text at i e =
    let found : (begun_at text at ≡ Some i) × (at + size_of (row_of i) ≤ length text) = whole-some (length text) at _ i e in
    found.1

pub instr_at-begins : (text : List ℕ) (at : ℕ) (i : Instr) → instr_at text at ≡ Some i → at < length text
instr_at-begins text at i e =
    let one : 1 ≤ size_of (row_of i) = size_least i in
    let end : at + size_of (row_of i) ≤ length text = instr_at-ends text at i e in
    omega arith
