-- What the instruction table's rows have in common.
use Rattle.std.proofs.Common.{◌≡◌, ℕ, ◌+◌, ◌<◌, ◌≤◌, ◌∷◌, Option, Some, None, List, length, length-append, arith, sym, subst}
use Rattle.std.specs.Prelude.{nat_le}
use Rattle.std.proofs.lemmas.Bool.{leb-true}
use Rattle.std.proofs.lemmas.Option.{cond_some}
use Rattle.ijvm_instr.specs.declared.instr.Instr.{Instr}
use Rattle.ijvm_instr.specs.declared.instr.Instr.TheVariants.{Nop}
use Rattle.ijvm_instr.specs.declared.row.Row.{Row}
use Rattle.ijvm_instr.specs.declared.row.Flow.TheVariants.{Call}
use Rattle.ijvm_instr.specs.Prelude.{row_of, size_of, prefix, operand_bytes, begun_at, whole, instr_at}
use Rattle.verifier_facts.specs.Prelude.{HasRow, IsWhole}

whole_fits : (many at : ℕ) (o : Option Instr) (i : Instr) → whole many at o ≡ Some i → at + size_of (row_of i) ≤ many
whole_fits many at None i e = cc
whole_fits many at (Some j) i e =
    let h = cond_some (nat_le (at + size_of (row_of j)) many) j i e in
    subst (λ (k : Instr). at + size_of (row_of k) ≤ many) h.1 (leb-true (at + size_of (row_of j)) many h.0)

-- a whole instruction ends at or before the text's end
pub size_fits : (text : List ℕ) (at : ℕ) (i : Instr) → instr_at text at ≡ Some i → at + size_of (row_of i) ≤ length text
unfolding instr_at
size_fits text at i e = whole_fits (length text) at (begun_at text at) i e

-- an instruction has a byte
pub size_above : (r : Row) → 0 < size_of r
size_above r = omega (arith, length-append (prefix r.wide) (r.opcode ∷ operand_bytes r.operands))

-- a call names its constant
pub call_constant : (i : Instr) (k : ℕ) → (row_of i).flow ≡ Call k → (row_of i).constant ≡ Some k
call_constant Nop k e = cc
call_constant i k e = cc

-- a row in a text is that of a whole instruction
pub row_whole : (text : List ℕ) (at : ℕ) (r : Row) → HasRow text at r → IsWhole text at r
row_whole text at r h = (size_above r, subst (λ (q : Row). at + size_of q ≤ length text) (sym h.2) (size_fits text at h.0 h.1))
