-- What instructions leave of the operands.
use Rattle.mic1_checks.proofs.Common.{◌≡◌, inl, inr, ℕ, ◌+◌, ◌*◌, ◌<◌, ◌≤◌, true, List, [], Option, Some, None, length, sym, ap, ◌∙◌, subst, arith, length-set}
use Rattle.mic1_checks.proofs.Common.{Decides-eqb, wrap, plus, byte_in, Instr, Invokevirtual, Ior, Istore, WideIstore, State, base, frames_of, Reads, Stores}
use Rattle.mic1_checks.proofs.Common.{Went, byte_bound, Environment, Symbols, Instruction, Above, Empty, AreLeft, wide_index_in, StartsBefore, is_wide_istore}
use Rattle.ijvm_image.specs.Image.{ImageView}
use Rattle.ijvm_simulation.specs.Images as images
use Rattle.mic1_checks.proofs.Knowledge.{byte_there}

-- if an operand is left, the last one is above this local
abbrev pub IsBelow : State → State → ℕ → Type 0
IsBelow s to k = 0 < length to.running.operands → base s.callers + k + 1 < base (frames_of to)

stored : (s to : State) (k v : ℕ) (rest : List ℕ) (at : ℕ) → Stores s k v rest at to → IsBelow s to k
stored s to k v rest at h =
    subst (λ (t : State). IsBelow s t k) h.goes (λ some. omega (arith, h.inside, some, length-set s.running.locals k (Some v)))

-- what an instruction leaves that begins with these bytes
pub record Leaves (a b c d : ℕ) (s to : State) : Type 0 where
  pub plain : a ≡ 0x36 → IsBelow s to b
  pub wide : a ≡ 0xC4 → b ≡ 0x36 → IsBelow s to (256 * c + d)
  pub call : a ≡ 0xB6 → to.running.operands ≡ []

leaves : (image : ImageView) (stack_end a b c d e f : ℕ) (s to : State) (i : Instr) → Reads a b c d e f i → Went image stack_end s to i →
    Leaves a b c d s to
leaves image stack_end a b c d e f s to (Istore k) r went =
    record {
      plain = λ h. subst (IsBelow s to) r.1 (stored s to k went.top went.rest (s.at + 2) went.leads);
      wide = λ h g. absurd (omega (arith, r.0, h));
      call = λ h. absurd (omega (arith, r.0, h));
    }
leaves image stack_end a b c d e f s to (WideIstore k) r went =
    record {
      plain = λ h. absurd (omega (arith, r.0, h));
      wide = λ h g. subst (IsBelow s to) r.2 (stored s to k went.top went.rest (s.at + 4) went.leads);
      call = λ h. absurd (omega (arith, r.0, h));
    }
leaves image stack_end a b c d e f s to (Invokevirtual k) r went =
    record {
      plain = λ h. absurd (omega (arith, r.0, h));
      wide = λ h g. absurd (omega (arith, r.0, h));
      call = λ h. sym (ap (λ (t : State). t.running.operands) went.leads.goes);
    }
leaves image stack_end a b c d e f s to Ior (inl r) went =
    record { plain = λ h. absurd (omega (arith, r, h)); wide = λ h g. absurd (omega (arith, r, h)); call = λ h. absurd (omega (arith, r, h)) }
leaves image stack_end a b c d e f s to Ior (inr r) went =
    record { plain = λ h. absurd (omega (arith, r, h)); wide = λ h g. absurd (omega (arith, r, h)); call = λ h. absurd (omega (arith, r, h)) }
leaves image stack_end a b c d e f s to i r went =
    record { plain = λ h. absurd (omega (arith, r, h)); wide = λ h g. absurd (omega (arith, r, h, g)); call = λ h. absurd (omega (arith, r, h)) }

is_istore : (second : Option ℕ) → is_wide_istore second ≡ true → second ≡ Some 0x36
is_istore None h = absurd (cc)
is_istore (Some k) h = ap Some ((Decides-eqb k 0x36).0 h)

module _ (e : Environment) (n : Instruction) (x : Symbols) (i : Instr) (to : State) (b : StartsBefore e n x i)
    (went : Went b.v.image b.v.map.stack_end b.s to i) where
  left : Leaves (byte_in b.o.words b.s.at) (byte_in b.o.words (b.s.at + 1)) (byte_in b.o.words (b.s.at + 2)) (byte_in b.o.words (b.s.at + 3)) b.s to
  left = leaves b.v.image b.v.map.stack_end _ _ _ _ _ _ b.s to i b.next.reads went

  above : (at k : ℕ) → e.word at ≡ plus (e.word x.lv) k → k < 0x10000 → IsBelow b.s to k → AreLeft e (Above at) to
  unfolding wrap
  above at k is small below some =
      let lv : e.word x.lv ≡ base b.s.callers = b.holds.lv_is in
      let fits : base b.s.callers ≤ length b.o.words = omega (arith, b.holds.fits) in
      omega (arith, is, lv, fits, small, (images.map b.v b.o b.loads).near, below some)

  pub after_istore : n.opcode ≡ 0x36 → (at : ℕ) → e.word at ≡ plus (e.word x.lv) (byte_in e.start.words (plus (e.word x.pc) 1)) → AreLeft e (Above at) to
  after_istore code at is =
      let index : ℕ = byte_in b.o.words (b.s.at + 1) in
      let bound : index < 256 = byte_bound b.o.words (b.s.at + 1) in
      above at index (is ∙ ap (λ (k : ℕ). plus (e.word x.lv) k) (byte_there e n x i b 1 (omega arith))) (omega (arith, bound))
      (left.plain (b.suits.opcode ∙ code))

  wide_index : wide_index_in e.start.words (e.word x.pc) ≡ 256 * byte_in b.o.words (b.s.at + 2) + byte_in b.o.words (b.s.at + 3)
  unfolding wrap
  wide_index =
      omega (
        arith,
        byte_there e n x i b 2 (omega arith),
        byte_there e n x i b 3 (omega arith),
        byte_bound b.o.words (b.s.at + 2),
        byte_bound b.o.words (b.s.at + 3),
      )

  pub after_wide_istore : n.opcode ≡ 0xC4 → is_wide_istore n.second ≡ true → (at : ℕ) →
      e.word at ≡ plus (e.word x.lv) (wide_index_in e.start.words (e.word x.pc)) → AreLeft e (Above at) to
  after_wide_istore code wide at is =
      let high : byte_in b.o.words (b.s.at + 2) < 256 = byte_bound b.o.words (b.s.at + 2) in
      let low : byte_in b.o.words (b.s.at + 3) < 256 = byte_bound b.o.words (b.s.at + 3) in
      above at (256 * byte_in b.o.words (b.s.at + 2) + byte_in b.o.words (b.s.at + 3)) (is ∙ ap (λ (k : ℕ). plus (e.word x.lv) k) wide_index)
      (omega (arith, high, low)) (left.wide (b.suits.opcode ∙ code) (b.suits.second 0x36 (is_istore n.second wide)))

  pub after_call : n.opcode ≡ 0xB6 → AreLeft e Empty to
  after_call code = left.call (b.suits.opcode ∙ code)
