-- What is known at a boundary of an accepted image's run.
use Rattle.mic1_checks.proofs.Common.{◌≡◌, ℕ, zero, suc, ◌+◌, ◌^◌, ◌<◌, ◌≤◌, length, arith, sym, ap, ◌∙◌, List, [], subst, wrap, plus, console_at, Instr, base}
use Rattle.mic1_checks.proofs.Common.{frames_of, IsMapEnd, above, byte_kept, Environment, Range, IsIn, end_of, Symbols, Instruction, HasBytes, StartsBefore}
use Rattle.mic1_checks.proofs.Common.{register_ranges, byte_in}
use Rattle.ijvm_simulation.specs.Images as images

-- PC, SP and LV are in their ranges, and the others in that of any word
in_ranges : (word : ℕ → ℕ) → ((i : ℕ) → word i < 4294967296) → word 2 < 0x10000 → 0x7FFF ≤ word 3 → word 3 < 0x20000 →
    0x8000 ≤ word 4 → word 4 ≤ 0x20000 → IsIn word register_ranges
unfolding end_of
in_ranges word small pc sp sp' lv lv' zero = (omega arith, omega (arith, small 0))
in_ranges word small pc sp sp' lv lv' (suc zero) = (omega arith, omega (arith, small 1))
in_ranges word small pc sp sp' lv lv' (suc (suc zero)) = (omega arith, omega (arith, pc))
in_ranges word small pc sp sp' lv lv' (suc (suc (suc zero))) = (omega (arith, sp), omega (arith, sp'))
in_ranges word small pc sp sp' lv lv' (suc (suc (suc (suc zero)))) = (omega (arith, lv), omega (arith, lv'))
in_ranges word small pc sp sp' lv lv' (suc (suc (suc (suc (suc n))))) = (omega arith, omega (arith, small (suc (suc (suc (suc (suc n)))))))

-- any words are in no ranges
pub in_none : (word : ℕ → ℕ) → ((i : ℕ) → word i < 4294967296) → (ranges : List Range) → ranges ≡ [] → IsIn word ranges
unfolding end_of
in_none word small ranges is = subst (IsIn word) (sym is) (λ n. (omega arith, omega (arith, small n)))

plus_is : (x y k : ℕ) → x ≡ y → y + k < 2 ^ 32 → plus x k ≡ y + k
unfolding wrap
plus_is x y k e l = omega (arith, e, l)

module _ (e : Environment) (n : Instruction) (x : Symbols) (i : Instr) (b : StartsBefore e n x i) where
  map : IsMapEnd (length b.o.words)
  map = images.map b.v b.o b.loads

  low : b.s.at < 0x10000
  low = images.inside b.v b.o b.s i b.loads b.next

  long : length e.start.words ≡ length b.o.words
  long = b.holds.memory.long

  pub long_enough : 0x8000 ≤ length e.start.words
  long_enough = omega (arith, long, map.low)

  pub size : length e.start.words ≤ console_at
  size = omega (arith, long, map.high)

  pub ranges : ((k : ℕ) → e.word k < 4294967296) → IsIn e.word register_ranges
  ranges small =
      let pc : e.word 2 ≡ b.s.at = ap e.word (sym b.start.pc) ∙ b.pc in
      let sp : e.word 3 + 1 ≡ base (frames_of b.s) = ap (λ (k : ℕ). e.word k + 1) (sym b.start.sp) ∙ b.holds.sp_is in
      let lv : e.word 4 ≡ base b.s.callers = ap e.word (sym b.start.lv) ∙ b.holds.lv_is in
      let high = b.holds.fits in
      let top = above (frames_of b.s) in
      let bottom = above b.s.callers in
      let below : base b.s.callers ≤ base (frames_of b.s) = omega arith in
      in_ranges e.word small (omega (arith, pc, low)) (omega (arith, sp, top)) (omega (arith, sp, high, map.near))
      (omega (arith, lv, bottom)) (omega (arith, lv, below, sp, high, map.near))

  -- the bytes after the opcode
  pub byte_there : (k : ℕ) → k < 6 → byte_in e.start.words (plus (e.word x.pc) k) ≡ byte_in b.o.words (b.s.at + k)
  byte_there k small =
      byte_kept e.start.words b.o.words b.holds.memory.kept (plus_is (e.word x.pc) b.s.at k b.pc (omega (arith, low, small))) (omega (arith, low, small))

  pub bytes : HasBytes e n x
  bytes =
      record {
        opcode = byte_kept e.start.words b.o.words b.holds.memory.kept b.pc (omega (arith, low)) ∙ b.suits.opcode;
        second = λ k is. byte_there 1 (omega arith) ∙ b.suits.second k is;
      }
