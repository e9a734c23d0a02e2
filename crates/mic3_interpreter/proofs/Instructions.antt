-- What each instruction takes of the machine.
use Rattle.mic3_interpreter.proofs.Common.{ℕ, ◌+◌, List, [], ◌∷◌, refl, arith, sym, ◌∙◌, ap, inl, inr, Bool, ◌==◌, length, ◌*◌, true, false, ◌%◌, bit_and}
use Rattle.mic3_interpreter.proofs.Common.{bit_or, if◌then◌else◌, slice_index, plus, minus, next, signed_byte, before, is_negative, byte_in, read_value, Instr}
use Rattle.mic3_interpreter.proofs.Common.{word_of, target, State, moved, VerifiedView, Micro, mic3_meaning, Pipeline, mic3_timing, Stands, cases_Bool}
use Rattle.mic3_interpreter.proofs.Common.{WaitsFirst, Waits, WaitsLate, WaitsOn, lands, returned, named, called, cut_off}
use Rattle.ijvm_instr.specs.declared.instr.Instr.TheVariants.{Nop, Bipush, LdcW, Iload, Istore, Pop, Dup, Swap, Iadd, Isub, Iand, Iinc, Ifeq, Iflt, IfIcmpeq, Goto, Ireturn, Ior, Invokevirtual, WideIload, WideIstore, WideIinc, In, Out, Err, Halt}
use Rattle.ijvm_simulation.specs.Prelude.{Loads, Origin, Moment, Takes, jump}
use Rattle.ijvm_simulation.specs.Leaves.{stays, bipush, dup, popped, operated, swapped, push_full, constant_from, local_from, taken_from, pushed_from, full_from, stored, changed, gives, popped_two, branches_by, branches_equal}
use Rattle.ijvm_simulation.specs.Places.{byte_after, pair_after, wide_after, signed_pair_at, jumps, place_at, place_on, entry_at}
use Rattle.mic3_interpreter.proofs.Store.{Known}
use Rattle.mic3_interpreter.proofs.Guided.{Issues, HeldUp, Turn, Lacks}
use Rattle.mic3_interpreter.proofs.Boundaries.{At, GoesOn, IsCut, at, arrives, overruns, alone}

-- where a branch goes on: at T or at F
abbrev branch : Bool → ℕ
branch b = if b then 257 else 1

-- The plans of a jump, and of a branch from the word that tests, where it is taken and where it is not.

abbrev jumping : List Turn
jumping = Issues ∷ Issues ∷ HeldUp ∷ Lacks WaitsFirst ∷ alone []

abbrev taken : List Turn
taken = Issues ∷ Issues ∷ HeldUp ∷ alone jumping

abbrev fallen : List Turn
fallen = Issues ∷ Issues ∷ HeldUp ∷ Issues ∷ alone []

-- The plan of a call: at its fourth statement bytes are lacking once, or twice where the entry is the last byte of a word.
abbrev lacking : Bool → List Turn → List Turn
lacking false ks = Lacks Waits ∷ ks
lacking true ks = Lacks WaitsLate ∷ Lacks WaitsOn ∷ ks

abbrev plan : Bool → List Turn → List Turn
plan late ks = alone (alone (lacking late (alone (Issues ∷ alone (Issues ∷ Issues ∷ HeldUp ∷ ks)))))

module _ {program : List ℕ} {o : Origin} {v : VerifiedView} {s : State} {q : Moment Pipeline} (a : At program o v s q) where
  abbrev m : Micro
  m = q.state.micro

  -- the byte this far after the opcode
  abbrev byte : ℕ → ℕ
  byte k = byte_in o.words (s.at + k)

  -- the byte at the target, and the one after the jump
  abbrev there : ℕ
  there = byte_in o.words (jump o.words s.at)

  abbrev following : ℕ
  following = byte_in o.words (s.at + 3)

  -- The terms of the words of INVOKEVIRTUAL: the method's entry, and what the link word holds.

  abbrev entry : ℕ
  entry = read_value (length o.words) q.world.words q.world.untaken (plus m.cpp (256 * byte_in o.words m.pc + byte_in o.words (m.pc + 1)))

  abbrev link : ℕ
  link = next (m.sp + (256 * byte_in o.words (plus entry 2) + byte_in o.words (plus entry 2 + 1)))

  goes : (i : Instr) → GoesOn a i
  goes Nop to fine n went = arrives a Nop 0x00 Issues (HeldUp ∷ HeldUp ∷ []) (byte 1 ∷ []) n.reads went (assumption (stays a.loads a.holds (s.at + 1)))
  goes (Bipush b) to fine n went =
      let l = bipush a.loads a.holds went (ap signed_byte a.counts.p0.byte ∙ sym n.reads.1) in
      arrives a (Bipush b) 0x10 Issues (alone []) (byte 2 ∷ []) n.reads.0 went.goes (assumption)
  goes Pop to fine n went =
      let l = popped a.loads a.holds went.are in
      arrives a Pop 0x57 Issues (alone (alone [])) (byte 1 ∷ []) n.reads went.leads (assumption (l.leaves (s.at + 1)))
  goes Dup to fine n went =
      arrives a Dup 0x59 Issues (alone []) (byte 1 ∷ []) n.reads went.leads.goes (assumption (dup a.loads a.holds went))
  goes Swap to fine n went =
      arrives a Swap 0x5F Issues (alone (Issues ∷ Issues ∷ Issues ∷ alone [])) (byte 1 ∷ []) n.reads went.leads (assumption (swapped a.loads a.holds went))
  goes Iadd to fine n went =
      arrives a Iadd 0x60 Issues (alone (alone [])) (byte 1 ∷ []) n.reads went.leads (assumption (operated a.loads a.holds plus went))
  goes Isub to fine n went =
      arrives a Isub 0x64 Issues (alone (alone [])) (byte 1 ∷ []) n.reads went.leads (assumption (operated a.loads a.holds minus went))
  goes Iand to fine n went =
      arrives a Iand 0x7E Issues (alone (alone [])) (byte 1 ∷ []) n.reads went.leads (assumption (operated a.loads a.holds bit_and went))
  goes Ior to fine n went =
      let l = operated a.loads a.holds bit_or went in
      elim n.reads [
        | inl code ↦ arrives a Ior 0xB0 Issues (alone (alone [])) (byte 1 ∷ []) code went.leads (assumption)
        | inr code ↦ arrives a Ior 0x80 Issues (alone (alone [])) (byte 1 ∷ []) code went.leads (assumption)
      ]
  goes (LdcW k) to fine n went =
      let l = pushed_from a.loads a.holds (constant_from a.loads a.holds k went.found (pair_after m.cpp a.counts n.reads.1)) went.leads in
      arrives a (LdcW k) 0x13 Issues (alone (alone [])) (byte 3 ∷ []) n.reads.0 went.leads.goes (assumption)
  goes (Iload k) to fine n went =
      let l = pushed_from a.loads a.holds (local_from a.loads a.holds k went.set (byte_after m.lv a.counts n.reads.1)) went.leads in
      arrives a (Iload k) 0x15 Issues (alone (alone [])) (byte 2 ∷ []) n.reads.0 went.leads.goes (assumption)
  goes (Istore k) to fine n went =
      let l = stored a.loads a.holds went (byte_after m.lv a.counts n.reads.1) in
      arrives a (Istore k) 0x36 Issues (Issues ∷ Issues ∷ alone (alone [])) (byte 2 ∷ []) n.reads.0 went.leads.goes (assumption)
  goes (Iinc k b) to fine n went =
      let l = changed a.loads a.holds (word_of b) (n.finds.named k (inl refl)).1 went (byte_after m.lv a.counts n.reads.1)
      (ap signed_byte a.counts.p1.byte ∙ sym n.reads.2) in
      arrives a (Iinc k b) 0x84 Issues (alone (alone [])) (byte 3 ∷ []) n.reads.0 went.leads (assumption)
  goes (WideIload k) to fine n went =
      let l = pushed_from a.loads a.holds (local_from a.loads a.holds k went.set (wide_after m.lv a.counts n.reads.2)) went.leads in
      arrives a (WideIload k) 0xC4 Issues (Issues ∷ alone (alone [])) (0x15 ∷ byte 4 ∷ []) n.reads.0 went.leads.goes (assumption (a.counts.p0.byte ∙ n.reads.1))
  goes (WideIstore k) to fine n went =
      let l = stored a.loads a.holds went (wide_after m.lv a.counts n.reads.2) in
      arrives a (WideIstore k) 0xC4 Issues (Issues ∷ Issues ∷ Issues ∷ alone (alone [])) (0x36 ∷ byte 4 ∷ [])
      n.reads.0 went.leads.goes (assumption (a.counts.p0.byte ∙ n.reads.1))
  goes (WideIinc k z) to fine n went =
      let l = changed a.loads a.holds (word_of z) (n.finds.named k (inl refl)).1 went (wide_after m.lv a.counts n.reads.2)
      (signed_pair_at o.words (plus (plus m.pc 1) 2) (s.at + 4) (s.at + 5) a.counts.p12 (omega arith) ∙ sym n.reads.3) in
      arrives a (WideIinc k z) 0xC4 Issues (Issues ∷ Issues ∷ alone (alone [])) (0x84 ∷ byte 6 ∷ [])
      n.reads.0 went.leads (assumption (a.counts.p0.byte ∙ n.reads.1))
  goes (Goto z) to fine n went =
      let land = lands v o s z a.loads n.reads.1 (n.finds.inside (target s.at z) (inr (z, refl, refl))) in
      let j = jumps a.stands.ready.micro.low a.counts land.inside in
      arrives a (Goto z) 0xA7 Issues (HeldUp ∷ HeldUp ∷ jumping) (there ∷ []) n.reads.0 (ap (moved s s.running.operands) land.is ∙ went)
      (assumption (stays a.loads a.holds (jump o.words s.at)))
  goes (Ifeq z) to fine n went =
      let land = lands v o s z a.loads n.reads.1 (n.finds.inside (target s.at z) (inr (z, refl, refl))) in
      let j = jumps a.stands.ready.micro.low a.counts land.inside in
      let l = popped a.loads a.holds went.are in
      let b = branches_by a.loads a.holds (λ y. y == 0) land went in
      let spent : Bool → ℕ = λ e. if e then 17 else 11 in
      elim (cases_Bool (q.state.micro.tos == 0)) [
        | inl t ↦ arrives a (Ifeq z) 0x99 Issues (alone taken) (257 ∷ there ∷ []) n.reads.0 (b.taken t).0
            (assumption (ap branch t, ap spent (b.taken t).1, l.leaves (jump o.words s.at)))
        | inr t ↦ arrives a (Ifeq z) 0x99 Issues (alone fallen) (1 ∷ following ∷ []) n.reads.0 (b.falls t).0
            (assumption (ap branch t, ap spent (b.falls t).1, l.leaves (s.at + 3)))
      ]
  goes (Iflt z) to fine n went =
      let land = lands v o s z a.loads n.reads.1 (n.finds.inside (target s.at z) (inr (z, refl, refl))) in
      let j = jumps a.stands.ready.micro.low a.counts land.inside in
      let l = popped a.loads a.holds went.are in
      let b = branches_by a.loads a.holds is_negative land went in
      let spent : Bool → ℕ = λ e. if e then 17 else 11 in
      elim (cases_Bool (is_negative q.state.micro.tos)) [
        | inl t ↦ arrives a (Iflt z) 0x9B Issues (alone taken) (257 ∷ there ∷ []) n.reads.0 (b.taken t).0
            (assumption (ap branch t, ap spent (b.taken t).1, l.leaves (jump o.words s.at)))
        | inr t ↦ arrives a (Iflt z) 0x9B Issues (alone fallen) (1 ∷ following ∷ []) n.reads.0 (b.falls t).0
            (assumption (ap branch t, ap spent (b.falls t).1, l.leaves (s.at + 3)))
      ]
  goes (IfIcmpeq z) to fine n went =
      let land = lands v o s z a.loads n.reads.1 (n.finds.inside (target s.at z) (inr (z, refl, refl))) in
      let j = jumps a.stands.ready.micro.low a.counts land.inside in
      let l = popped_two a.loads a.holds went.are in
      let b = branches_equal a.loads a.holds fine land went in
      let spent : Bool → ℕ = λ e. if e then 23 else 17 in
      elim (cases_Bool (minus q.state.micro.tos (read_value (length o.words) q.world.words q.world.untaken (before q.state.micro.sp)) == 0)) [
        | inl t ↦ arrives a (IfIcmpeq z) 0x9F Issues (HeldUp ∷ HeldUp ∷ alone (Issues ∷ alone taken)) (257 ∷ there ∷ []) n.reads.0 (b.taken t).0
            (assumption (ap branch t, ap spent (b.taken t).1, l.leaves (jump o.words s.at)))
        | inr t ↦ arrives a (IfIcmpeq z) 0x9F Issues (HeldUp ∷ HeldUp ∷ alone (Issues ∷ alone fallen)) (1 ∷ following ∷ []) n.reads.0 (b.falls t).0
            (assumption (ap branch t, ap spent (b.falls t).1, l.leaves (s.at + 3)))
      ]
  goes Ireturn to fine n went =
      let l = returned a.loads a.holds n went in
      let p0 = place_at o.words _ went.back l.back (omega (arith, l.inside)) in
      let p1 = place_on 1 (went.back + 1) p0 refl (omega (arith, l.inside)) in
      arrives a Ireturn 0xAC Issues (alone (alone (alone (Issues ∷ alone (Issues ∷ alone []))))) (byte_in o.words went.back ∷ []) n.reads
      went.with_top.leads (assumption)
  goes (Invokevirtual k) to fine n went =
      let f = named a.loads a.holds k went.found (pair_after m.cpp a.counts n.reads.1) in
      let e = entry_at went.method f.entry f.whole f.params f.others in
      let l = called a.loads a.holds {link = link} went f e.params e.others refl a.counts.p2.is in
      let stands = l.leaves m.tos in
      let late = ap (λ (j : ℕ). j % 4 == 3) (f.entry ∙ sym f.pool) in
      let spent : Bool → ℕ = λ b. if b then 24 else 23 in
      let gs : List ℕ = byte_in o.words (went.method.entry + 4) ∷ [] in
      elim (cases_Bool (slice_index v.image.pool k % 4 == 3)) [
        | inl t ↦ arrives a (Invokevirtual k) 0xB6 Issues (plan true (Issues ∷ Issues ∷ alone [])) gs n.reads.0 went.leads.goes
            (assumption (late ∙ t, ap spent t))
        | inr t ↦ arrives a (Invokevirtual k) 0xB6 Issues (plan false (Issues ∷ Issues ∷ alone [])) gs n.reads.0 went.leads.goes
            (assumption (late ∙ t, ap spent t))
      ]
  goes In to fine n went =
      let l = pushed_from a.loads a.holds (taken_from a.loads a.holds) went in
      arrives a In 0xFC Issues (HeldUp ∷ HeldUp ∷ alone (Issues ∷ alone (alone []))) (byte 1 ∷ []) n.reads went.goes (assumption)
  goes Out to fine n went =
      let l = gives a.loads a.holds went in
      arrives a Out 0xFD Issues (HeldUp ∷ HeldUp ∷ alone (Issues ∷ Issues ∷ Issues ∷ alone (alone []))) (byte 1 ∷ []) n.reads went.leads (assumption)
  goes Err to fine n went = absurd went
  goes Halt to fine n went = absurd went

  limits : (i : Instr) → IsCut a i
  limits (Bipush b) left n over =
      let l = push_full a.loads a.holds over in
      overruns a left 0x10 (next m.sp) Issues (Issues ∷ HeldUp ∷ []) (byte_in o.words (plus m.pc 1) ∷ []) HeldUp n.reads.0 (assumption)
  limits Dup left n over =
      let l = push_full a.loads a.holds over.leads in
      overruns a left 0x59 (next m.sp) Issues (Issues ∷ HeldUp ∷ []) (byte_in o.words m.pc ∷ []) HeldUp n.reads (assumption)
  limits (LdcW k) left n over =
      let l = full_from a.loads a.holds (constant_from a.loads a.holds k over.found (pair_after m.cpp a.counts n.reads.1)) over.leads in
      overruns a left 0x13 (next m.sp) Issues (alone (Issues ∷ HeldUp ∷ [])) (byte_in o.words (plus m.pc 2) ∷ []) HeldUp n.reads.0 (assumption)
  limits (Iload k) left n over =
      let l = full_from a.loads a.holds (local_from a.loads a.holds k over.set (byte_after m.lv a.counts n.reads.1)) over.leads in
      overruns a left 0x15 (next m.sp) Issues (alone (Issues ∷ HeldUp ∷ [])) (byte_in o.words (plus m.pc 1) ∷ []) HeldUp n.reads.0 (assumption)
  limits (WideIload k) left n over =
      let l = full_from a.loads a.holds (local_from a.loads a.holds k over.set (wide_after m.lv a.counts n.reads.2)) over.leads in
      overruns a left 0xC4 (next m.sp) Issues (Issues ∷ alone (Issues ∷ HeldUp ∷ [])) (0x15 ∷ byte_in o.words (plus (plus m.pc 1) 2) ∷ []) HeldUp
      n.reads.0 (assumption (a.counts.p0.byte ∙ n.reads.1))
  limits (Invokevirtual k) left n over =
      let f = named a.loads a.holds k over.found (pair_after m.cpp a.counts n.reads.1) in
      let e = entry_at over.method f.entry f.whole f.params f.others in
      let l = cut_off a.loads a.holds {link = link} over f e.params e.others refl in
      let late = ap (λ (j : ℕ). j % 4 == 3) (f.entry ∙ sym f.pool) in
      let cut = overruns a left 0xB6 in
      let three : List Turn = Issues ∷ Issues ∷ Issues ∷ [] in
      let gs : List ℕ = byte_in o.words (plus (plus entry 2) 2) ∷ [] in
      elim (cases_Bool (slice_index v.image.pool k % 4 == 3)) [
        | inl t ↦ elim l.1 [
          | inl refused ↦ cut link Issues (plan true []) [] Issues n.reads.0 (assumption (late ∙ t))
          | inr third ↦ cut (next link) Issues (plan true three) gs HeldUp n.reads.0 (assumption (late ∙ t, third.given (plus m.pc 2)))
        ]
        | inr t ↦ elim l.1 [
          | inl refused ↦ cut link Issues (plan false []) [] Issues n.reads.0 (assumption (late ∙ t))
          | inr third ↦ cut (next link) Issues (plan false three) gs HeldUp n.reads.0 (assumption (late ∙ t, third.given (plus m.pc 2)))
        ]
      ]
  limits In left n over =
      let l = full_from a.loads a.holds (taken_from a.loads a.holds) over in
      overruns a left 0xFC (next m.sp) Issues (HeldUp ∷ HeldUp ∷ alone (Issues ∷ alone (Issues ∷ HeldUp ∷ []))) (byte_in o.words m.pc ∷ []) HeldUp
      n.reads (assumption)
  limits i left n over = absurd (assumption)

pub takes : (program : List ℕ) → Known program → (o : Origin) (v : VerifiedView) → Loads v o →
    Takes mic3_meaning program (Stands o) o.given mic3_timing v o (λ i. Unit {0})
takes program has o v loads = record {
  goes = λ s to q i any fine n h went. goes (at i has loads n h) i to fine n went;
  limits = λ s left q i any fine n h over. limits (at i has loads n h) i left n over;
}
