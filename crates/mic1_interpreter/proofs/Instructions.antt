-- What each instruction takes of the machine.
use Rattle.mic1_interpreter.proofs.Common.{ℕ, List, [], ◌∷◌, refl, arith, sym, ◌∙◌, ap, inl, inr, ◌≡◌, ◌+◌, ◌*◌, ◌<◌, ◌==◌, Bool, length, ap₂, add_comm}
use Rattle.mic1_interpreter.proofs.Common.{bit_and, bit_or, if◌then◌else◌, ℤ, and_comm, or_comm, Mic1, plus, minus, next, signed_byte, wrap, before}
use Rattle.mic1_interpreter.proofs.Common.{signed_pair, is_negative, byte_in, World, read_value, Instr, word_of, target, State, timing_of, moved, VerifiedView}
use Rattle.mic1_interpreter.proofs.Common.{Micro, mic1_meaning, Origin, Moment, Loads, Takes, jump, Lands, plus_comm, byte_kept, before_is, Stands, cases_Bool}
use Rattle.mic1_interpreter.proofs.Common.{lands, Method}
use Rattle.ijvm_instr.specs.declared.instr.Instr.TheVariants.{Nop, Bipush, LdcW, Iload, Istore, Pop, Dup, Swap, Iadd, Isub, Iand, Iinc, Ifeq, Iflt, IfIcmpeq, Goto, Ireturn, Ior, Invokevirtual, WideIload, WideIstore, WideIinc, In, Out, Err, Halt}
use Rattle.ijvm_simulation.specs.Leaves.{stays, bipush, dup, popped, operated, operated_turned, swapped, push_full, constant_from, local_from, taken_from, pushed_from, full_from, stored, changed, changed_turned, gives, popped_two, branches_by, branches_equal}
use Rattle.mic1_interpreter.proofs.Store.{HasStatements}
use Rattle.mic1_interpreter.proofs.Boundaries.{At, GoesOn, IsCut, at, opcode, arrives, overruns, Place, place, place_on}
use Rattle.mic1_interpreter.proofs.Words.{pair_is, signed_pair_is}
use Rattle.ijvm_simulation.specs.Calling.{Named, returned, named, called, cut_off}

-- where the words of goto come to
abbrev goes_to : Micro → World → ℕ
goes_to m w = plus (bit_or (wrap (256 * signed_byte (byte_in w.words (next m.pc)))) (byte_in w.words (next (next m.pc)))) (before (next m.pc))

-- where a branch goes on: at T or at F
abbrev branch : Bool → ℕ
branch b = if b then 257 else 1

module _ {program : List ℕ} {o : Origin} {v : VerifiedView} {s : State} {q : Moment Micro} (a : At program o v s q) where
  abbrev m : Micro
  m = q.state

  -- the address that the byte after the opcode names
  byte_after : {k : ℕ} → k ≡ byte_in o.words (s.at + 1) → plus m.lv (byte_in q.world.words (next m.pc)) ≡ plus m.lv k
  byte_after index = ap (plus m.lv) (a.first.byte ∙ sym index)

  -- that of a local, which two bytes after a second opcode name
  wide_after : {k : ℕ} → k ≡ 256 * byte_in o.words (s.at + 2) + byte_in o.words (s.at + 3) →
      plus (bit_or (wrap (256 * byte_in q.world.words (next (next m.pc)))) (byte_in q.world.words (next (next (next m.pc))))) m.lv ≡ plus m.lv k
  wide_after {k} index = ap (λ (x : ℕ). plus x m.lv) (pair_is o.words (s.at + 2) (s.at + 3) a.second.byte a.third.byte index) ∙ plus_comm k m.lv

  -- the second opcode of a wide instruction
  widened : {code : ℕ} → byte_in o.words (s.at + 1) ≡ code → byte_in q.world.words (next m.pc) + 256 ≡ code + 256
  widened is = ap (λ (x : ℕ). x + 256) (a.first.byte ∙ is)

  record Jump (z : ℤ) : Type 0 where
    lands : Lands o s z
    to : Place o q.world (goes_to m q.world) (jump o.words s.at)

  jumps : (z : ℤ) → word_of z ≡ signed_pair (byte_in o.words (s.at + 1)) (byte_in o.words (s.at + 2)) → target s.at z < length v.image.text → Jump z
  jumps z is inside =
      let there : Lands o s z = lands v o s z a.loads is inside in
      let from : before (next m.pc) ≡ s.at = before_is (next m.pc) s.at a.first.is (omega (arith, a.first.is, a.inside)) in
      let to : goes_to m q.world ≡ jump o.words s.at = ap₂ plus (signed_pair_is o.words (s.at + 1) (s.at + 2) a.first.byte a.second.byte) from in
      record { lands = there; to = place a.loads a.holds to (omega (arith, there.inside)) }

  abbrev words : List ℕ
  words = q.world.words

  -- The terms of the words of INVOKEVIRTUAL: the address of the constant, the method's entry, its two counts, and what the link word holds.

  abbrev from : ℕ
  from = plus (bit_or (wrap (256 * byte_in words (next m.pc))) (byte_in words (next (next m.pc)))) m.cpp

  abbrev entry : ℕ
  entry = read_value (length o.words) words q.world.untaken from

  abbrev count : ℕ
  count = bit_or (wrap (256 * byte_in words entry)) (byte_in words (next entry))

  abbrev own : ℕ
  own = bit_or (wrap (256 * byte_in words (next (next entry)))) (byte_in words (next (next (next entry))))

  -- the address of a constant, which two bytes name
  constant_after : {k : ℕ} → k ≡ 256 * byte_in o.words (s.at + 1) + byte_in o.words (s.at + 2) → from ≡ plus m.cpp k
  constant_after {k} index = ap (λ (x : ℕ). plus x m.cpp) (pair_is o.words (s.at + 1) (s.at + 2) a.first.byte a.second.byte index) ∙ plus_comm k m.cpp

  -- what is read of a method
  record Entering (f : Method) : Type 0 where
    e0 : Place o q.world entry f.entry
    e1 : Place o q.world (next entry) (f.entry + 1)
    e2 : Place o q.world (next (next entry)) (f.entry + 2)
    e3 : Place o q.world (next (next (next entry))) (f.entry + 3)
    e4 : Place o q.world (next (next (next (next entry)))) (f.entry + 4)
    params : count ≡ f.params
    others : own ≡ f.others

  entering : {k : ℕ} (f : Method) → Named a.loads a.holds from k f → Entering f
  entering f named =
      let e : ℕ = f.entry in
      let whole : e + 4 < 0x10000 = named.whole in
      let e0 : Place o q.world entry e = place a.loads a.holds named.entry (omega arith) in
      let e1 = place_on a.loads a.holds {b = e + 1} e0 refl (omega arith) in
      let e2 = place_on a.loads a.holds {b = e + 2} e1 (omega arith) (omega arith) in
      let e3 = place_on a.loads a.holds {b = e + 3} e2 (omega arith) (omega arith) in
      let e4 = place_on a.loads a.holds {b = e + 4} e3 (omega arith) (omega arith) in
      assumption (pair_is o.words e (e + 1) e0.byte e1.byte named.params, pair_is o.words (e + 2) (e + 3) e2.byte e3.byte named.others)

  goes : (i : Instr) → GoesOn a i
  goes Nop to fine n went = arrives a Nop 1 (0 ∷ []) went (assumption (opcode a n.reads, stays a.loads a.holds (s.at + 1)))
  goes (Bipush b) to fine n went =
      arrives a (Bipush b) 3 (0x10 ∷ []) went.goes (assumption (opcode a n.reads.0, bipush a.loads a.holds went (ap signed_byte a.first.byte ∙ sym n.reads.1)))
  goes Pop to fine n went =
      let l = popped a.loads a.holds went.are in
      arrives a Pop 3 (0x57 ∷ []) went.leads (assumption (opcode a n.reads, l.leaves (s.at + 1)))
  goes Dup to fine n went =
      arrives a Dup 2 (0x59 ∷ []) went.leads.goes (assumption (opcode a n.reads, dup a.loads a.holds went))
  goes Swap to fine n went =
      arrives a Swap 6 (0x5F ∷ []) went.leads (assumption (opcode a n.reads, swapped a.loads a.holds went))
  goes Iadd to fine n went =
      arrives a Iadd 3 (0x60 ∷ []) went.leads (assumption (opcode a n.reads, operated_turned a.loads a.holds plus plus_comm went))
  goes Isub to fine n went =
      arrives a Isub 3 (0x64 ∷ []) went.leads (assumption (opcode a n.reads, operated a.loads a.holds minus went))
  goes Iand to fine n went =
      arrives a Iand 3 (0x7E ∷ []) went.leads (assumption (opcode a n.reads, operated_turned a.loads a.holds bit_and and_comm went))
  goes Ior to fine n went =
      let l = operated_turned a.loads a.holds bit_or or_comm went in
      elim n.reads [
        | inl code ↦ arrives a Ior 3 (0xB0 ∷ []) went.leads (assumption (opcode a code))
        | inr code ↦ arrives a Ior 3 (0x80 ∷ []) went.leads (assumption (opcode a code))
      ]
  goes (LdcW k) to fine n went =
      let l = pushed_from a.loads a.holds (constant_from a.loads a.holds k went.found (constant_after n.reads.1)) went.leads in
      arrives a (LdcW k) 7 (0x13 ∷ []) went.leads.goes
      (assumption (opcode a n.reads.0, byte_kept _ _ l.push.leaves.memory.kept a.third.is (omega arith)))
  goes (Iload k) to fine n went =
      let l = pushed_from a.loads a.holds (local_from a.loads a.holds k went.set (byte_after n.reads.1)) went.leads in
      arrives a (Iload k) 5 (0x15 ∷ []) went.leads.goes
      (assumption (opcode a n.reads.0, byte_kept _ _ l.push.leaves.memory.kept a.second.is (omega arith)))
  goes (Istore k) to fine n went =
      let l = stored a.loads a.holds went (byte_after n.reads.1) in
      arrives a (Istore k) 6 (0x36 ∷ []) went.leads.goes
      (assumption (opcode a n.reads.0, byte_kept _ _ l.leaves.memory.kept a.second.is (omega arith)))
  goes (Iinc k b) to fine n went =
      let l = changed a.loads a.holds (word_of b) (n.finds.named k (inl refl)).1 went (byte_after n.reads.1) (ap signed_byte a.second.byte ∙ sym n.reads.2) in
      arrives a (Iinc k b) 6 (0x84 ∷ []) went.leads (assumption (opcode a n.reads.0))
  goes (WideIload k) to fine n went =
      let l = pushed_from a.loads a.holds (local_from a.loads a.holds k went.set (wide_after n.reads.2)) went.leads in
      arrives a (WideIload k) 8 (0xC4 ∷ 0x115 ∷ []) went.leads.goes
      (assumption (opcode a n.reads.0, widened n.reads.1, byte_kept _ _ l.push.leaves.memory.kept a.fourth.is (omega arith)))
  goes (WideIstore k) to fine n went =
      let l = stored a.loads a.holds went (wide_after n.reads.2) in
      arrives a (WideIstore k) 9 (0xC4 ∷ 0x136 ∷ []) went.leads.goes
      (assumption (opcode a n.reads.0, widened n.reads.1, byte_kept _ _ l.leaves.memory.kept a.fourth.is (omega arith)))
  goes (WideIinc k z) to fine n went =
      let l = changed_turned a.loads a.holds (word_of z) (n.finds.named k (inl refl)).1 went (wide_after n.reads.2)
      (signed_pair_is o.words (s.at + 4) (s.at + 5) a.fourth.byte a.fifth.byte ∙ sym n.reads.3) in
      arrives a (WideIinc k z) 11 (0xC4 ∷ 0x184 ∷ []) went.leads (assumption (opcode a n.reads.0, widened n.reads.1))
  goes (Goto z) to fine n went =
      let j = jumps z n.reads.1 (n.finds.inside (target s.at z) (inr (z, refl, refl))) in
      arrives a (Goto z) 6 (0xA7 ∷ []) (ap (moved s s.running.operands) j.lands.is ∙ went)
      (assumption (opcode a n.reads.0, stays a.loads a.holds (jump o.words s.at)))
  goes (Ifeq z) to fine n went =
      let j = jumps z n.reads.1 (n.finds.inside (target s.at z) (inr (z, refl, refl))) in
      let l = popped a.loads a.holds went.are in
      let b = branches_by a.loads a.holds (λ y. y == 0) j.lands went in
      let spent : Bool → ℕ = λ e. if e then 11 else 8 in
      elim (cases_Bool (m.tos == 0)) [
        | inl t ↦ arrives a (Ifeq z) 10 (0x99 ∷ 257 ∷ []) (b.taken t).0
            (assumption (opcode a n.reads.0, ap branch t, ap spent (b.taken t).1, l.leaves (jump o.words s.at)))
        | inr t ↦ arrives a (Ifeq z) 7 (0x99 ∷ 1 ∷ []) (b.falls t).0
            (assumption (opcode a n.reads.0, ap branch t, ap spent (b.falls t).1, l.leaves (s.at + 3)))
      ]
  goes (Iflt z) to fine n went =
      let j = jumps z n.reads.1 (n.finds.inside (target s.at z) (inr (z, refl, refl))) in
      let l = popped a.loads a.holds went.are in
      let b = branches_by a.loads a.holds is_negative j.lands went in
      let spent : Bool → ℕ = λ e. if e then 11 else 8 in
      elim (cases_Bool (is_negative m.tos)) [
        | inl t ↦ arrives a (Iflt z) 10 (0x9B ∷ 257 ∷ []) (b.taken t).0
            (assumption (opcode a n.reads.0, ap branch t, ap spent (b.taken t).1, l.leaves (jump o.words s.at)))
        | inr t ↦ arrives a (Iflt z) 7 (0x9B ∷ 1 ∷ []) (b.falls t).0
            (assumption (opcode a n.reads.0, ap branch t, ap spent (b.falls t).1, l.leaves (s.at + 3)))
      ]
  goes (IfIcmpeq z) to fine n went =
      let j = jumps z n.reads.1 (n.finds.inside (target s.at z) (inr (z, refl, refl))) in
      let l = popped_two a.loads a.holds went.are in
      let b = branches_equal a.loads a.holds fine j.lands went in
      let spent : Bool → ℕ = λ e. if e then 13 else 10 in
      elim (cases_Bool (minus m.tos (read_value (length o.words) q.world.words q.world.untaken (before m.sp)) == 0)) [
        | inl t ↦ arrives a (IfIcmpeq z) 12 (0x9F ∷ 257 ∷ []) (b.taken t).0
            (assumption (opcode a n.reads.0, ap branch t, ap spent (b.taken t).1, l.leaves (jump o.words s.at)))
        | inr t ↦ arrives a (IfIcmpeq z) 9 (0x9F ∷ 1 ∷ []) (b.falls t).0
            (assumption (opcode a n.reads.0, ap branch t, ap spent (b.falls t).1, l.leaves (s.at + 3)))
      ]
  goes Ireturn to fine n went =
      let l = returned a.loads a.holds n went in
      let p = place a.loads a.holds l.back (omega (arith, l.inside)) in
      arrives a Ireturn 8 (0xAC ∷ []) went.with_top.leads (assumption (opcode a n.reads))
  goes (Invokevirtual k) to fine n went =
      let f = named a.loads a.holds k went.found (constant_after n.reads.1) in
      let e = entering went.method f in
      let l = called a.loads a.holds went f e.params e.others (ap next (add_comm own m.sp)) a.third.is in
      let stands = l.leaves 0 in
      arrives a (Invokevirtual k) 22 (0xB6 ∷ []) went.leads.goes
      (assumption (opcode a n.reads.0, byte_kept _ _ stands.memory.kept e.e4.is (omega (arith, f.whole))))
  goes In to fine n went =
      arrives a In 5 (0xFC ∷ []) went.goes (assumption (opcode a n.reads, pushed_from a.loads a.holds (taken_from a.loads a.holds) went))
  goes Out to fine n went =
      arrives a Out 7 (0xFD ∷ []) went.leads (assumption (opcode a n.reads, gives a.loads a.holds went))
  goes Err to fine n went = absurd went
  goes Halt to fine n went = absurd went

  limits : (i : Instr) → IsCut a i
  limits (Bipush b) left n over = let l = push_full a.loads a.holds over in overruns a left 2 (next m.sp) (0x10 ∷ []) (assumption (opcode a n.reads.0))
  limits Dup left n over = let l = push_full a.loads a.holds over.leads in overruns a left 1 (next m.sp) (0x59 ∷ []) (assumption (opcode a n.reads))
  limits (LdcW k) left n over =
      let l = full_from a.loads a.holds (constant_from a.loads a.holds k over.found (constant_after n.reads.1)) over.leads in
      overruns a left 5 (next m.sp) (0x13 ∷ []) (assumption (opcode a n.reads.0))
  limits (Iload k) left n over =
      let l = full_from a.loads a.holds (local_from a.loads a.holds k over.set (byte_after n.reads.1)) over.leads in
      overruns a left 3 (next m.sp) (0x15 ∷ []) (assumption (opcode a n.reads.0))
  limits (WideIload k) left n over =
      let l = full_from a.loads a.holds (local_from a.loads a.holds k over.set (wide_after n.reads.2)) over.leads in
      overruns a left 6 (next m.sp) (0xC4 ∷ 0x115 ∷ []) (assumption (opcode a n.reads.0, widened n.reads.1))
  limits (Invokevirtual k) left n over =
      let f = named a.loads a.holds k over.found (constant_after n.reads.1) in
      let e = entering over.method f in
      let link : ℕ = next (own + m.sp) in
      let l = cut_off a.loads a.holds over f e.params e.others (ap next (add_comm own m.sp)) in
      elim l.1 [
        | inl refused ↦ overruns a left 17 link (0xB6 ∷ []) (assumption (opcode a n.reads.0))
        | inr late ↦ overruns a left 19 (next link) (0xB6 ∷ []) (assumption (opcode a n.reads.0, late.given (next (next (next m.pc)))))
      ]
  limits In left n over =
      overruns a left 4 (next m.sp) (0xFC ∷ []) (assumption (opcode a n.reads, full_from a.loads a.holds (taken_from a.loads a.holds) over))
  limits i left n over = absurd (assumption)

pub takes : (program : List ℕ) → HasStatements program → (o : Origin) (v : VerifiedView) → Loads v o →
    Takes mic1_meaning program (Stands o) o.given (timing_of Mic1) v o (λ i. Unit {0})
takes program has o v loads = record {
  goes = λ s to q i any fine n h went. goes (at i has loads n h) i to fine n went;
  limits = λ s left q i any fine n h over. limits (at i has loads n h) i left n over;
}
