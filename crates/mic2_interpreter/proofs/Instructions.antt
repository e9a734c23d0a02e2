-- What each instruction takes of the machine.
use Rattle.mic2_interpreter.proofs.Common.{ℕ, ◌+◌, List, [], ◌∷◌, refl, arith, sym, ◌∙◌, ap, inl, inr, ◌≡◌, Bool, ◌==◌, length, ◌*◌, true, false, ◌%◌, bit_and}
use Rattle.mic2_interpreter.proofs.Common.{bit_or, if◌then◌else◌, slice_index, plus, minus, next, signed_byte, before, is_negative, byte_in, read_value, Instr}
use Rattle.mic2_interpreter.proofs.Common.{word_of, target, State, moved, VerifiedView, Loads, Origin, Moment, jump, byte_after, pair_after, wide_after}
use Rattle.mic2_interpreter.proofs.Common.{signed_pair_at, jumps, place_at, place_on, entry_at, TakesWithStalls, cases_Bool, lands, Waits, WaitsLate, WaitsOn}
use Rattle.ijvm_instr.specs.declared.instr.Instr.TheVariants.{Nop, Bipush, LdcW, Iload, Istore, Pop, Dup, Swap, Iadd, Isub, Iand, Iinc, Ifeq, Iflt, IfIcmpeq, Goto, Ireturn, Ior, Invokevirtual, WideIload, WideIstore, WideIinc, In, Out, Err, Halt}
use Rattle.mic2_datapath.specs.Prelude.{Micro}
use Rattle.ijvm_simulation.specs.Leaves.{stays, bipush, dup, popped, operated, swapped, push_full, constant_from, local_from, taken_from, pushed_from, full_from, stored, changed, gives, popped_two, branches_by, branches_equal}
use Rattle.mic2_interpreter.proofs.Store.{Known}
use Rattle.mic2_interpreter.proofs.Guided.{Goes, Turn, Lacks}
use Rattle.mic2_interpreter.proofs.Boundaries.{At, GoesOn, IsCut, at, arrives, overruns, steps}
use Rattle.ijvm_simulation.specs.Calling.{returned, named, called, cut_off}

-- where a branch goes on: at T or at F
abbrev branch : Bool → ℕ
branch b = if b then 257 else 1

-- The steps of a call up to the word that stalls, and its stalls: one, or two where the entry is the last byte of a word.
abbrev plan : Bool → List Turn → List Turn
plan false bs = Goes ∷ Goes ∷ Lacks Waits ∷ bs
plan true bs = Goes ∷ Goes ∷ Lacks WaitsLate ∷ Lacks WaitsOn ∷ bs

abbrev stalls_of_call : Bool → ℕ
stalls_of_call late = if late then 2 else 1

stalls_twice : (k : ℕ) {late : Bool} → late ≡ true → k + 1 + 1 ≡ k + stalls_of_call late
stalls_twice k is = let two : k + 1 + 1 ≡ k + 2 = omega arith in two ∙ ap (λ (b : Bool). k + stalls_of_call b) (sym is)

stalls_once : (k : ℕ) {late : Bool} → late ≡ false → k + 1 ≡ k + stalls_of_call late
stalls_once k is = ap (λ (b : Bool). k + stalls_of_call b) (sym is)

module _ {program : List ℕ} {o : Origin} {v : VerifiedView} {s : State} {q : Moment Micro} (a : At program o v s q) where
  abbrev m : Micro
  m = q.state

  -- the byte this far after the opcode
  abbrev byte : ℕ → ℕ
  byte k = byte_in o.words (s.at + k)

  -- the second opcode of a wide instruction
  widened : {code : ℕ} → byte_in o.words (s.at + 1) ≡ code → byte_in o.words m.pc + 256 ≡ code + 256
  widened is = ap (λ (x : ℕ). x + 256) (a.counts.p0.byte ∙ is)

  -- the byte at the target, and the one after the jump
  abbrev there : ℕ
  there = byte_in o.words (jump o.words s.at)

  abbrev following : ℕ
  following = byte_in o.words (s.at + 3)

  -- The terms of the words of INVOKEVIRTUAL: the method's entry, and what the link word holds.

  abbrev entry : ℕ
  entry = read_value (length o.words) q.world.words q.world.untaken (plus m.cpp (256 * byte_in o.words m.pc + byte_in o.words (m.pc + 1)))

  abbrev link : ℕ
  link = next (m.sp + (256 * byte_in o.words (plus entry 2) + byte_in o.words (plus entry 2 + 1)))

  goes : (i : Instr) → GoesOn a i
  goes Nop to fine n went = arrives a Nop 0x00 Goes (steps 0) (byte 1 ∷ []) n.reads went (assumption (stays a.loads a.holds (s.at + 1)))
  goes (Bipush b) to fine n went =
      let l = bipush a.loads a.holds went (ap signed_byte a.counts.p0.byte ∙ sym n.reads.1) in
      arrives a (Bipush b) 0x10 Goes (steps 1) (byte 2 ∷ []) n.reads.0 went.goes (assumption)
  goes Pop to fine n went =
      let l = popped a.loads a.holds went.are in
      arrives a Pop 0x57 Goes (steps 2) (byte 1 ∷ []) n.reads went.leads (assumption (l.leaves (s.at + 1)))
  goes Dup to fine n went =
      arrives a Dup 0x59 Goes (steps 1) (byte 1 ∷ []) n.reads went.leads.goes (assumption (dup a.loads a.holds went))
  goes Swap to fine n went =
      arrives a Swap 0x5F Goes (steps 5) (byte 1 ∷ []) n.reads went.leads (assumption (swapped a.loads a.holds went))
  goes Iadd to fine n went =
      arrives a Iadd 0x60 Goes (steps 2) (byte 1 ∷ []) n.reads went.leads (assumption (operated a.loads a.holds plus went))
  goes Isub to fine n went =
      arrives a Isub 0x64 Goes (steps 2) (byte 1 ∷ []) n.reads went.leads (assumption (operated a.loads a.holds minus went))
  goes Iand to fine n went =
      arrives a Iand 0x7E Goes (steps 2) (byte 1 ∷ []) n.reads went.leads (assumption (operated a.loads a.holds bit_and went))
  goes Ior to fine n went =
      let l = operated a.loads a.holds bit_or went in
      elim n.reads [
        | inl code ↦ arrives a Ior 0xB0 Goes (steps 2) (byte 1 ∷ []) code went.leads (assumption)
        | inr code ↦ arrives a Ior 0x80 Goes (steps 2) (byte 1 ∷ []) code went.leads (assumption)
      ]
  goes (LdcW k) to fine n went =
      let l = pushed_from a.loads a.holds (constant_from a.loads a.holds k went.found (pair_after m.cpp a.counts n.reads.1)) went.leads in
      arrives a (LdcW k) 0x13 Goes (steps 2) (byte 3 ∷ []) n.reads.0 went.leads.goes (assumption)
  goes (Iload k) to fine n went =
      let l = pushed_from a.loads a.holds (local_from a.loads a.holds k went.set (byte_after m.lv a.counts n.reads.1)) went.leads in
      arrives a (Iload k) 0x15 Goes (steps 2) (byte 2 ∷ []) n.reads.0 went.leads.goes (assumption)
  goes (Istore k) to fine n went =
      let l = stored a.loads a.holds went (byte_after m.lv a.counts n.reads.1) in
      arrives a (Istore k) 0x36 Goes (steps 4) (byte 2 ∷ []) n.reads.0 went.leads.goes (assumption)
  goes (Iinc k b) to fine n went =
      let l = changed a.loads a.holds (word_of b) (n.finds.named k (inl refl)).1 went (byte_after m.lv a.counts n.reads.1)
      (ap signed_byte a.counts.p1.byte ∙ sym n.reads.2) in
      arrives a (Iinc k b) 0x84 Goes (steps 2) (byte 3 ∷ []) n.reads.0 went.leads (assumption)
  goes (WideIload k) to fine n went =
      let l = pushed_from a.loads a.holds (local_from a.loads a.holds k went.set (wide_after m.lv a.counts n.reads.2)) went.leads in
      arrives a (WideIload k) 0xC4 Goes (steps 3) (0x115 ∷ byte 4 ∷ []) n.reads.0 went.leads.goes (assumption (widened n.reads.1))
  goes (WideIstore k) to fine n went =
      let l = stored a.loads a.holds went (wide_after m.lv a.counts n.reads.2) in
      arrives a (WideIstore k) 0xC4 Goes (steps 5) (0x136 ∷ byte 4 ∷ []) n.reads.0 went.leads.goes (assumption (widened n.reads.1))
  goes (WideIinc k z) to fine n went =
      let l = changed a.loads a.holds (word_of z) (n.finds.named k (inl refl)).1 went (wide_after m.lv a.counts n.reads.2)
      (signed_pair_at o.words (plus (plus m.pc 1) 2) (s.at + 4) (s.at + 5) a.counts.p12 (omega arith) ∙ sym n.reads.3) in
      arrives a (WideIinc k z) 0xC4 Goes (steps 4) (0x184 ∷ byte 6 ∷ []) n.reads.0 went.leads (assumption (widened n.reads.1))
  goes (Goto z) to fine n went =
      let land = lands v o s z a.loads n.reads.1 (n.finds.inside (target s.at z) (inr (z, refl, refl))) in
      let j = jumps a.stands.ready.low a.counts land.inside in
      arrives a (Goto z) 0xA7 Goes (steps 3) (there ∷ []) n.reads.0 (ap (moved s s.running.operands) land.is ∙ went)
      (assumption (stays a.loads a.holds (jump o.words s.at)))
  goes (Ifeq z) to fine n went =
      let land = lands v o s z a.loads n.reads.1 (n.finds.inside (target s.at z) (inr (z, refl, refl))) in
      let j = jumps a.stands.ready.low a.counts land.inside in
      let l = popped a.loads a.holds went.are in
      let b = branches_by a.loads a.holds (λ y. y == 0) land went in
      let spent : Bool → ℕ = λ e. if e then 8 else 6 in
      elim (cases_Bool (q.state.tos == 0)) [
        | inl t ↦ arrives a (Ifeq z) 0x99 Goes (steps 7) (257 ∷ there ∷ []) n.reads.0 (b.taken t).0
            (assumption (ap branch t, ap spent (b.taken t).1, l.leaves (jump o.words s.at)))
        | inr t ↦ arrives a (Ifeq z) 0x99 Goes (steps 5) (1 ∷ following ∷ []) n.reads.0 (b.falls t).0
            (assumption (ap branch t, ap spent (b.falls t).1, l.leaves (s.at + 3)))
      ]
  goes (Iflt z) to fine n went =
      let land = lands v o s z a.loads n.reads.1 (n.finds.inside (target s.at z) (inr (z, refl, refl))) in
      let j = jumps a.stands.ready.low a.counts land.inside in
      let l = popped a.loads a.holds went.are in
      let b = branches_by a.loads a.holds is_negative land went in
      let spent : Bool → ℕ = λ e. if e then 8 else 6 in
      elim (cases_Bool (is_negative q.state.tos)) [
        | inl t ↦ arrives a (Iflt z) 0x9B Goes (steps 7) (257 ∷ there ∷ []) n.reads.0 (b.taken t).0
            (assumption (ap branch t, ap spent (b.taken t).1, l.leaves (jump o.words s.at)))
        | inr t ↦ arrives a (Iflt z) 0x9B Goes (steps 5) (1 ∷ following ∷ []) n.reads.0 (b.falls t).0
            (assumption (ap branch t, ap spent (b.falls t).1, l.leaves (s.at + 3)))
      ]
  goes (IfIcmpeq z) to fine n went =
      let land = lands v o s z a.loads n.reads.1 (n.finds.inside (target s.at z) (inr (z, refl, refl))) in
      let j = jumps a.stands.ready.low a.counts land.inside in
      let l = popped_two a.loads a.holds went.are in
      let b = branches_equal a.loads a.holds fine land went in
      let spent : Bool → ℕ = λ e. if e then 10 else 8 in
      elim (cases_Bool (minus q.state.tos (read_value (length o.words) q.world.words q.world.untaken (before q.state.sp)) == 0)) [
        | inl t ↦ arrives a (IfIcmpeq z) 0x9F Goes (steps 9) (257 ∷ there ∷ []) n.reads.0 (b.taken t).0
            (assumption (ap branch t, ap spent (b.taken t).1, l.leaves (jump o.words s.at)))
        | inr t ↦ arrives a (IfIcmpeq z) 0x9F Goes (steps 7) (1 ∷ following ∷ []) n.reads.0 (b.falls t).0
            (assumption (ap branch t, ap spent (b.falls t).1, l.leaves (s.at + 3)))
      ]
  goes Ireturn to fine n went =
      let l = returned a.loads a.holds n went in
      let p0 = place_at o.words _ went.back l.back (omega (arith, l.inside)) in
      let p1 = place_on 1 (went.back + 1) p0 refl (omega (arith, l.inside)) in
      arrives a Ireturn 0xAC Goes (steps 7) (byte_in o.words went.back ∷ []) n.reads went.with_top.leads (assumption)
  goes (Invokevirtual k) to fine n went =
      let f = named a.loads a.holds k went.found (pair_after m.cpp a.counts n.reads.1) in
      let e = entry_at went.method f.entry f.whole f.params f.others in
      let l = called a.loads a.holds {link = link} went f e.params e.others refl a.counts.p2.is in
      let stands = l.leaves m.tos in
      let late = ap (λ (j : ℕ). j % 4 == 3) (f.entry ∙ sym f.pool) in
      let spent : Bool → ℕ = λ b. if b then 13 else 12 in
      let gs : List ℕ = byte_in o.words (went.method.entry + 4) ∷ [] in
      elim (cases_Bool (slice_index v.image.pool k % 4 == 3)) [
        | inl t ↦ arrives a (Invokevirtual k) 0xB6 Goes (plan true (steps 8)) gs n.reads.0 went.leads.goes
            (assumption (late ∙ t, ap spent t, stalls_twice q.stalls t))
        | inr t ↦ arrives a (Invokevirtual k) 0xB6 Goes (plan false (steps 8)) gs n.reads.0 went.leads.goes
            (assumption (late ∙ t, ap spent t, stalls_once q.stalls t))
      ]
  goes In to fine n went =
      arrives a In 0xFC Goes (steps 4) (byte 1 ∷ []) n.reads went.goes (assumption (pushed_from a.loads a.holds (taken_from a.loads a.holds) went))
  goes Out to fine n went =
      arrives a Out 0xFD Goes (steps 6) (byte 1 ∷ []) n.reads went.leads (assumption (gives a.loads a.holds went))
  goes Err to fine n went = absurd went
  goes Halt to fine n went = absurd went

  limits : (i : Instr) → IsCut a i
  limits (Bipush b) left n over =
      overruns a left (Bipush b) 0x10 (next m.sp) Goes (steps 0) [] n.reads.0 (assumption (push_full a.loads a.holds over))
  limits Dup left n over =
      overruns a left Dup 0x59 (next m.sp) Goes (steps 0) [] n.reads (assumption (push_full a.loads a.holds over.leads))
  limits (LdcW k) left n over =
      let l = full_from a.loads a.holds (constant_from a.loads a.holds k over.found (pair_after m.cpp a.counts n.reads.1)) over.leads in
      overruns a left (LdcW k) 0x13 (next m.sp) Goes (steps 1) [] n.reads.0 (assumption)
  limits (Iload k) left n over =
      let l = full_from a.loads a.holds (local_from a.loads a.holds k over.set (byte_after m.lv a.counts n.reads.1)) over.leads in
      overruns a left (Iload k) 0x15 (next m.sp) Goes (steps 1) [] n.reads.0 (assumption)
  limits (WideIload k) left n over =
      let l = full_from a.loads a.holds (local_from a.loads a.holds k over.set (wide_after m.lv a.counts n.reads.2)) over.leads in
      overruns a left (WideIload k) 0xC4 (next m.sp) Goes (steps 2) (0x115 ∷ []) n.reads.0 (assumption (widened n.reads.1))
  limits (Invokevirtual k) left n over =
      let f = named a.loads a.holds k over.found (pair_after m.cpp a.counts n.reads.1) in
      let e = entry_at over.method f.entry f.whole f.params f.others in
      let l = cut_off a.loads a.holds {link = link} over f e.params e.others refl in
      let late = ap (λ (j : ℕ). j % 4 == 3) (f.entry ∙ sym f.pool) in
      let cut = overruns a left (Invokevirtual k) 0xB6 in
      elim (cases_Bool (slice_index v.image.pool k % 4 == 3)) [
        | inl t ↦ elim l.1 [
          | inl refused ↦ cut link Goes (plan true (steps 4)) [] n.reads.0 (assumption (late ∙ t, stalls_twice q.stalls t))
          | inr third ↦ cut (next link) Goes (plan true (steps 6)) [] n.reads.0 (assumption (late ∙ t, stalls_twice q.stalls t, third.given (plus m.pc 2)))
        ]
        | inr t ↦ elim l.1 [
          | inl refused ↦ cut link Goes (plan false (steps 4)) [] n.reads.0 (assumption (late ∙ t, stalls_once q.stalls t))
          | inr third ↦ cut (next link) Goes (plan false (steps 6)) [] n.reads.0 (assumption (late ∙ t, stalls_once q.stalls t, third.given (plus m.pc 2)))
        ]
      ]
  limits In left n over =
      overruns a left In 0xFC (next m.sp) Goes (steps 3) [] n.reads (assumption (full_from a.loads a.holds (taken_from a.loads a.holds) over))
  limits i left n over = absurd (assumption)

pub takes : (program : List ℕ) → Known program → (o : Origin) (v : VerifiedView) → Loads v o → TakesWithStalls program o v (λ i. Unit {0})
takes program has o v loads = record {
  goes = λ s to q i any fine n h went. goes (at i has loads n h) i to fine n went;
  limits = λ s left q i any fine n h over. limits (at i has loads n h) i left n over;
}
