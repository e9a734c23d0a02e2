-- What the bytes are of an instruction that is read at an address.
use Rattle.ijvm_simulation.proofs.Common.{◌≡◌, ℕ, ◌+◌, ◌*◌, ◌<◌, ◌≤◌, Bool, true, false, if◌then◌else◌, ◌==◌, Option, Some, None, List, length, refl, arith}
use Rattle.ijvm_simulation.proofs.Common.{subst, inl, inr, slice_index, nat_le, All, w8, w16, cast_signed, nat_tests, same_Some, Instr, byte_below, row_of}
use Rattle.ijvm_simulation.proofs.Common.{size_of, begun_at, of_bytes, whole, instr_at}
use Rattle.ijvm_instr.specs.declared.instr.Instr.TheVariants.{Nop, Bipush, LdcW, Iload, Istore, Pop, Dup, Swap, Iadd, Isub, Iand, Iinc, Ifeq, Iflt, IfIcmpeq, Goto, Ireturn, Ior, Invokevirtual, WideIload, WideIstore, WideIinc, In, Out, Err, Halt}
use Rattle.ijvm_simulation.specs.Prelude.{Reads}
use Rattle.ijvm_simulation.proofs.Numbers.{byte_word, half_word}

-- one row of the decoder, then those after it
row_by : (P : Instr → Type 0) (x y : ℕ) (found rest : Option Instr) (i : Instr) (t : Bool) → (x == y) ≡ t →
    (x ≡ y → found ≡ Some i → P i) → (rest ≡ Some i → P i) → (if t then found else rest) ≡ Some i → P i
row_by P x y found rest i true is here there e = let same : x ≡ y = grind (arith, nat_tests) in here same e
row_by P x y found rest i false is here there e = there e

row : (P : Instr → Type 0) (x y : ℕ) (j : Instr) (rest : Option Instr) (i : Instr) → (x ≡ y → P j) → (rest ≡ Some i → P i) → (if x == y then Some j else rest) ≡ Some i → P i
row P x y j rest i here there e = row_by P x y (Some j) rest i (x == y) refl (λ same found. subst P (same_Some _ _ found) (here same)) there e

pub reads : (a b c d e f : ℕ) (i : Instr) → b < 256 → c < 256 → e < 256 → f < 256 → of_bytes a b c d e f ≡ Some i → Reads a b c d e f i
unfolding of_bytes
reads a b c d e f i lb lc le lf =
    let P : Instr → Type 0 = Reads a b c d e f in
    row P a 0x00 Nop _ i (λ is. is)
    (row P a 0x10 (Bipush (cast_signed w8 b)) _ i (λ is. (is, byte_word b lb))
    (row P a 0x13 (LdcW (256 * b + c)) _ i (λ is. (is, refl))
    (row P a 0x15 (Iload b) _ i (λ is. (is, refl))
    (row P a 0x36 (Istore b) _ i (λ is. (is, refl))
    (row P a 0x57 Pop _ i (λ is. is)
    (row P a 0x59 Dup _ i (λ is. is)
    (row P a 0x5F Swap _ i (λ is. is)
    (row P a 0x60 Iadd _ i (λ is. is)
    (row P a 0x64 Isub _ i (λ is. is)
    (row P a 0x7E Iand _ i (λ is. is)
    (row P a 0x80 Ior _ i (λ is. inr is)
    (row P a 0x84 (Iinc b (cast_signed w8 c)) _ i (λ is. (is, refl, byte_word c lc))
    (row P a 0x99 (Ifeq (cast_signed w16 (256 * b + c))) _ i (λ is. (is, half_word b c lb lc))
    (row P a 0x9B (Iflt (cast_signed w16 (256 * b + c))) _ i (λ is. (is, half_word b c lb lc))
    (row P a 0x9F (IfIcmpeq (cast_signed w16 (256 * b + c))) _ i (λ is. (is, half_word b c lb lc))
    (row P a 0xA7 (Goto (cast_signed w16 (256 * b + c))) _ i (λ is. (is, half_word b c lb lc))
    (row P a 0xAC Ireturn _ i (λ is. is)
    (row P a 0xB0 Ior _ i (λ is. inl is)
    (row P a 0xB6 (Invokevirtual (256 * b + c)) _ i (λ is. (is, refl))
    (row_by P a 0xC4 _ _ i (a == 0xC4) refl
    (λ wide. row P b 0x15 (WideIload (256 * c + d)) _ i (λ is. (wide, is, refl)) (row P b 0x36 (WideIstore (256 * c + d)) _ i (λ is. (wide, is, refl))
    (row P b 0x84 (WideIinc (256 * c + d) (cast_signed w16 (256 * e + f))) _ i (λ is. (wide, is, refl, half_word e f le lf)) (λ none. absurd (cc)))))
    (row P a 0xFC In _ i (λ is. is)
    (row P a 0xFD Out _ i (λ is. is)
    (row P a 0xFE Err _ i (λ is. is)
    (row P a 0xFF Halt _ i (λ is. is) (λ none. absurd (cc))))))))))))))))))))))))))

-- the instruction at an address, by the text's bytes from there on
pub record Decoded (text : List ℕ) (at : ℕ) (i : Instr) : Type 0 where
  pub reads : Reads (slice_index text at) (slice_index text (at + 1)) (slice_index text (at + 2)) (slice_index text (at + 3)) (slice_index text (at + 4)) (slice_index text (at + 5)) i
  pub fits : at + size_of (row_of i) ≤ length text

pub decoded : (text : List ℕ) → All (λ b. b < 256) text → (at : ℕ) (i : Instr) → instr_at text at ≡ Some i → Decoded text at i
unfolding instr_at
decoded text bytes at i e = by_whole (begun_at text at) refl e
  where
    by_test : (j : Instr) → begun_at text at ≡ Some j →
        (t : Bool) → nat_le (at + size_of (row_of j)) (length text) ≡ t → (if t then Some j else None) ≡ Some i → Decoded text at i
    by_test j is true t found = subst (λ (k : Instr). Decoded text at k) (same_Some _ _ found) (record { reads = reads _ _ _ _ _ _ j (byte_below text (at + 1) bytes) (byte_below text (at + 2) bytes) (byte_below text (at + 4) bytes) (byte_below text (at + 5) bytes) is; fits = grind (arith, nat_tests) })
    by_test j is false t found = absurd (cc)

    by_whole : (found : Option Instr) → begun_at text at ≡ found →
        whole (length text) at found ≡ Some i → Decoded text at i
    by_whole None is found = absurd (cc)
    by_whole (Some j) is found = by_test j is (nat_le (at + size_of (row_of j)) (length text)) refl found
