-- Where an instruction has an operand, the last one is in TOS and at SP.
use Rattle.mic1_checks.proofs.Common.{◌≡◌, ℕ, suc, ◌+◌, ◌<◌, ◌≤◌, true, false, ◌==◌, List, [], ◌∷◌, Option, Some, None, length, refl, sym, ap, ◌∙◌, arith}
use Rattle.mic1_checks.proofs.Common.{slice_index, wrap, Instr, Nop, Bipush, LdcW, Iload, Istore, Pop, Dup, Swap, Iadd, Isub, Iand, Iinc, Ifeq, Iflt, IfIcmpeq}
use Rattle.mic1_checks.proofs.Common.{Goto, Ireturn, Ior, Invokevirtual, WideIload, WideIstore, WideIinc, In, Out, Err, Halt, row_of, base, operands_at}
use Rattle.mic1_checks.proofs.Common.{need_of, Reads, above, IsTop, OperandsAt, Environment, Symbols, Instruction, HasOperand, StartsBefore, takes_operand}
use Rattle.ijvm_image.specs.Image.{ImageView}
use Rattle.ijvm_simulation.specs.Images as images

no_other : (a code : ℕ) (second : Option ℕ) → a ≡ code → takes_operand code second ≡ false → takes_operand a second ≡ true → ⊥
no_other a code second is other takes =
    let both : true ≡ false = sym takes ∙ (ap (λ (k : ℕ). takes_operand k second) is ∙ other) in
    cc

-- after WIDE another byte is not that of ISTORE
no_wide : (a b code : ℕ) (second : Option ℕ) → ((k : ℕ) → second ≡ Some k → b ≡ k) → a ≡ 0xC4 → b ≡ code → (code == 0x36) ≡ false →
    takes_operand a second ≡ true → ⊥
no_wide a b code None after is next other takes = no_other a 0xC4 None is refl takes
no_wide a b code (Some k) after is next other takes =
    no_other a 0xC4 (Some k) is (ap (λ (j : ℕ). j == 0x36) (sym (after k refl) ∙ next) ∙ other) takes

some_is : (a b : ℕ) → Some a ≡ Some b → a ≡ b
some_is a b e = cc

one : (a need : ℕ) → Some (suc a) ≡ Some need → 0 < need
one a need is = let e : suc a ≡ need = some_is (suc a) need is in omega (arith, e)

-- an instruction with such an opcode needs an operand
needs : (image : ImageView) (a b c d e f need : ℕ) (second : Option ℕ) (i : Instr) → ((k : ℕ) → second ≡ Some k → b ≡ k) →
    Reads a b c d e f i → takes_operand a second ≡ true →
    need_of image (row_of i).needs (row_of i).flow ≡ Some need → 0 < need
needs image a b c d e f need second Nop after r t is = absurd (no_other a 0x00 second r refl t)
needs image a b c d e f need second (Bipush z) after r t is = absurd (no_other a 0x10 second r.0 refl t)
needs image a b c d e f need second (LdcW k) after r t is = absurd (no_other a 0x13 second r.0 refl t)
needs image a b c d e f need second (Iload k) after r t is = absurd (no_other a 0x15 second r.0 refl t)
needs image a b c d e f need second (Istore k) after r t is = one 0 need is
needs image a b c d e f need second Pop after r t is = one 0 need is
needs image a b c d e f need second Dup after r t is = one 0 need is
needs image a b c d e f need second Swap after r t is = one 1 need is
needs image a b c d e f need second Iadd after r t is = one 1 need is
needs image a b c d e f need second Isub after r t is = one 1 need is
needs image a b c d e f need second Iand after r t is = one 1 need is
needs image a b c d e f need second (Iinc k z) after r t is = absurd (no_other a 0x84 second r.0 refl t)
needs image a b c d e f need second (Ifeq z) after r t is = one 0 need is
needs image a b c d e f need second (Iflt z) after r t is = one 0 need is
needs image a b c d e f need second (IfIcmpeq z) after r t is = one 1 need is
needs image a b c d e f need second (Goto z) after r t is = absurd (no_other a 0xA7 second r.0 refl t)
needs image a b c d e f need second Ireturn after r t is = one 0 need is
needs image a b c d e f need second Ior after r t is = one 1 need is
needs image a b c d e f need second (Invokevirtual k) after r t is = absurd (no_other a 0xB6 second r.0 refl t)
needs image a b c d e f need second (WideIload k) after r t is = absurd (no_wide a b 0x15 second after r.0 r.1 refl t)
needs image a b c d e f need second (WideIstore k) after r t is = one 0 need is
needs image a b c d e f need second (WideIinc k z) after r t is = absurd (no_wide a b 0x84 second after r.0 r.1 refl t)
needs image a b c d e f need second In after r t is = absurd (no_other a 0xFC second r refl t)
needs image a b c d e f need second Out after r t is = one 0 need is
needs image a b c d e f need second Err after r t is = absurd (no_other a 0xFE second r refl t)
needs image a b c d e f need second Halt after r t is = absurd (no_other a 0xFF second r refl t)

on_top : (words : List ℕ) (at sp tos : ℕ) (ys : List ℕ) → OperandsAt words at ys → IsTop tos ys → sp + 1 ≡ at + length ys → 0 < length ys →
    slice_index words sp ≡ tos
on_top words at sp tos [] o t e some = absurd (omega (arith, some))
on_top words at sp tos (y ∷ ys) o t e some =
    let here : sp ≡ at + length ys = omega (arith, e) in
    ap (λ (k : ℕ). slice_index words k) here ∙ (o.0 ∙ sym t)

pub operand_at_top : (e : Environment) (n : Instruction) (x : Symbols) (i : Instr) → StartsBefore e n x i →
    takes_operand n.opcode n.second ≡ true → HasOperand e x
unfolding wrap
operand_at_top e n x i b takes =
    let finds = b.next.finds in
    let ys : List ℕ = b.s.running.operands in
    let first : ℕ = operands_at (base b.s.callers) b.s.running in
    let code = ap (λ (k : ℕ). takes_operand k n.second) b.suits.opcode ∙ takes in
    let need : ℕ = finds.operands.0 in
    let some : 0 < need = needs b.v.image _ _ _ _ _ _ need n.second i b.suits.second b.next.reads code finds.operands.1 in
    let deep : need ≤ length ys = finds.operands.2 in
    let sp : e.word x.sp + 1 ≡ first + length ys = b.holds.sp_is in
    let fits : first + length ys ≤ length b.o.words = b.holds.fits in
    let long : length e.start.words ≡ length b.o.words = b.holds.memory.long in
    let near = (images.map b.v b.o b.loads).near in
    let bottom : 0x8000 ≤ base b.s.callers = above b.s.callers in
    record {
      top = record {
        inside = omega (arith, sp, fits, long);
        is = on_top e.start.words first (e.word x.sp) (e.word x.tos) ys b.holds.frames.0.operands b.holds.tos_is sp (omega (arith, some, deep));
      };
      below = omega (arith, sp, fits, long, near, bottom, some, deep);
    }
