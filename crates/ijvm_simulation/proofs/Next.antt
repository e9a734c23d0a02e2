-- What comes next in a run of a verified image, and how the law of a machine's instructions becomes the law of its boundaries.
use Rattle.ijvm_simulation.proofs.Common.{◌≡◌, ℕ, ◌+◌, ◌*◌, ◌<◌, Bool, true, false, Some, List, [], ◌∷◌, ◌++◌, length, refl, arith, sym, ◌∙◌, ap, ap₂, subst}
use Rattle.ijvm_simulation.proofs.Common.{inl, inr, same_Some, signed_byte, signed_pair, World, byte_in, Meaning, ImageView, IsImage, Instr, row_of, size_of}
use Rattle.ijvm_simulation.proofs.Common.{prefix, operand_bytes, instr_at, Accepts, IsMainCount, Finds, KeepsSound, VerifiedView, IsAccepted}
use Rattle.ijvm_instr.specs.declared.instr.Instr.TheVariants.{Bipush, LdcW, Iload, Istore, Iinc, Ifeq, Iflt, IfIcmpeq, Goto, Ior, Invokevirtual, WideIload, WideIstore, WideIinc, Err, Halt}
use Rattle.ijvm_meaning.specs.Prelude.{State, AreWords, start_of, StepOutcome, Goes, Halts, Errs, Limits, step_outcome, step_if_any, Timing, next_cost, cost_at, cost, GoesOnInWords, Here, On}
use Rattle.ijvm_simulation.specs.Prelude.{Origin, Reads, IsOutcome, program, Loads, Fine, IsNext, Moves, Stops, Law}
use Rattle.ijvm_simulation.proofs.Decoded.{decoded}
use Rattle.ijvm_simulation.proofs.Cases.{says}
use Rattle.ijvm_simulation.proofs.Instruction.{Keeps, Law as BoundaryLaw}

module _ (a b c d e f a' b' c' d' e' f' : ℕ) where
  two : {x y x' y' : ℕ} → x' ≡ x → y' ≡ y → 256 * x + y ≡ 256 * x' + y'
  two p q = sym (ap₂ (λ (m n : ℕ). 256 * m + n) p q)

  -- one row of bytes reads as an instruction where another does that has the same bytes as far as the instruction goes
  reads_along : (i : Instr) → (0 < size_of (row_of i) → a' ≡ a) → (1 < size_of (row_of i) → b' ≡ b) → (2 < size_of (row_of i) → c' ≡ c) →
      (3 < size_of (row_of i) → d' ≡ d) → (4 < size_of (row_of i) → e' ≡ e) → (5 < size_of (row_of i) → f' ≡ f) → Reads a b c d e f i → Reads a' b' c' d' e' f' i
  reads_along (Bipush z) p q r s t u h = (p (omega arith) ∙ h.0, h.1 ∙ ap signed_byte (sym (q (omega arith))))
  reads_along (LdcW k) p q r s t u h = (p (omega arith) ∙ h.0, h.1 ∙ two (q (omega arith)) (r (omega arith)))
  reads_along (Iload k) p q r s t u h = (p (omega arith) ∙ h.0, h.1 ∙ sym (q (omega arith)))
  reads_along (Istore k) p q r s t u h = (p (omega arith) ∙ h.0, h.1 ∙ sym (q (omega arith)))
  reads_along (Iinc k z) p q r s t u h = (p (omega arith) ∙ h.0, h.1 ∙ sym (q (omega arith)), h.2 ∙ ap signed_byte (sym (r (omega arith))))
  reads_along (Ifeq z) p q r s t u h = (p (omega arith) ∙ h.0, h.1 ∙ ap₂ signed_pair (sym (q (omega arith))) (sym (r (omega arith))))
  reads_along (Iflt z) p q r s t u h = (p (omega arith) ∙ h.0, h.1 ∙ ap₂ signed_pair (sym (q (omega arith))) (sym (r (omega arith))))
  reads_along (IfIcmpeq z) p q r s t u h = (p (omega arith) ∙ h.0, h.1 ∙ ap₂ signed_pair (sym (q (omega arith))) (sym (r (omega arith))))
  reads_along (Goto z) p q r s t u h = (p (omega arith) ∙ h.0, h.1 ∙ ap₂ signed_pair (sym (q (omega arith))) (sym (r (omega arith))))
  reads_along Ior p q r s t u h = elim h [ inl x ↦ inl (p (omega arith) ∙ x) | inr x ↦ inr (p (omega arith) ∙ x) ]
  reads_along (Invokevirtual k) p q r s t u h = (p (omega arith) ∙ h.0, h.1 ∙ two (q (omega arith)) (r (omega arith)))
  reads_along (WideIload k) p q r s t u h = (p (omega arith) ∙ h.0, q (omega arith) ∙ h.1, h.2 ∙ two (r (omega arith)) (s (omega arith)))
  reads_along (WideIstore k) p q r s t u h = (p (omega arith) ∙ h.0, q (omega arith) ∙ h.1, h.2 ∙ two (r (omega arith)) (s (omega arith)))
  reads_along (WideIinc k z) p q r s t u h =
      (p (omega arith) ∙ h.0, q (omega arith) ∙ h.1, h.2 ∙ two (r (omega arith)) (s (omega arith)), h.3 ∙ ap₂ signed_pair (sym (t (omega arith))) (sym (u (omega arith))))
  reads_along _ p q r s t u h = p (omega arith) ∙ h

-- what is known of the runs of every verified image
pub record Known : Type 0 where
  pub sound : (image : ImageView) (stack_end main_locals : ℕ) → Accepts image stack_end → IsMainCount image main_locals → KeepsSound image stack_end main_locals
  pub start : (main_locals : ℕ) (input : List ℕ) → AreWords (start_of main_locals input)
  pub goes : (image : ImageView) (stack_end : ℕ) (s to : State) → IsImage image → GoesOnInWords image stack_end s to

pub fine_start : (v : VerifiedView) → Known → (input : List ℕ) → Fine v (start_of v.main_locals input)
fine_start v known input = record { reached = Here _ (record { running = refl; callers = refl; at = refl }); words = known.start v.main_locals input }

pub keeps : (v : VerifiedView) (timing : Timing) → IsAccepted v → IsImage v.image → Known → Keeps (program timing v) (Fine v)
keeps v timing accepted image known =
    record {
      stays = λ s to fine goes. record {
        reached = On s to to fine.reached goes (record { running = refl; callers = refl; at = refl });
        words = known.goes v.image v.map.stack_end s to image fine.words goes;
      };
      unstuck = λ s fine stuck. accepted.safe s fine.reached stuck;
    }

module _ (v : VerifiedView) (o : Origin) (loads : Loads v o) (known : Known) where
  reads : (s : State) (i : Instr) → Finds v.image s i →
      Reads (byte_in o.words s.at) (byte_in o.words (s.at + 1)) (byte_in o.words (s.at + 2)) (byte_in o.words (s.at + 3)) (byte_in o.words (s.at + 4)) (byte_in o.words (s.at + 5)) i
  reads s i finds =
      reads_along _ _ _ _ _ _ _ _ _ _ _ _ i
      (λ l. loads.bytes s.at (omega (arith, finds.whole, l)))
      (λ l. loads.bytes (s.at + 1) (omega (arith, finds.whole, l)))
      (λ l. loads.bytes (s.at + 2) (omega (arith, finds.whole, l)))
      (λ l. loads.bytes (s.at + 3) (omega (arith, finds.whole, l)))
      (λ l. loads.bytes (s.at + 4) (omega (arith, finds.whole, l)))
      (λ l. loads.bytes (s.at + 5) (omega (arith, finds.whole, l)))
      (decoded v.image.text loads.image.bytes s.at i finds.code).reads

  -- an instruction has an opcode
  some_byte : (wide : Bool) (opcode : ℕ) (operands : List ℕ) → 0 < length (prefix wide ++ opcode ∷ operands)
  some_byte true opcode operands = omega arith
  some_byte false opcode operands = omega arith

  next : (s : State) → Fine v s → (i : Instr) × IsNext v o s i
  next s fine =
      let sound : KeepsSound v.image v.map.stack_end v.main_locals =
      known.sound v.image v.map.stack_end v.main_locals loads.accepted.accepts loads.accepted.main in
      let f = sound.finds s (sound.comes_to [] s fine.reached) in
      let some : 0 < size_of (row_of f.0) = some_byte (row_of f.0).wide (row_of f.0).opcode (operand_bytes (row_of f.0).operands) in
      (f.0, record { begins = omega (arith, some, f.1.whole); finds = f.1; reads = reads s f.0 f.1 })

  -- the next instruction is the one that is read
  pub next_of : (s : State) → Fine v s → (i : Instr) → instr_at v.image.text s.at ≡ Some i → IsNext v o s i
  next_of s fine i code =
      let n = next s fine in
      subst (λ (j : Instr). IsNext v o s j) (same_Some n.0 i (sym n.1.finds.code ∙ code)) n.1

  -- what the outcome of the next instruction shows
  pub said : (s : State) (i : Instr) (out : StepOutcome) → instr_at v.image.text s.at ≡ Some i → step_outcome v.image v.map.stack_end s ≡ out → IsOutcome v.image v.map.stack_end s i out
  said s i out code e =
      subst (λ (x : StepOutcome). IsOutcome v.image v.map.stack_end s i x) (ap (step_if_any v.image v.map.stack_end s) (sym code) ∙ e) (says v.image v.map.stack_end s i)

  module _ {S : Type 0} (m : Meaning S) (store : List ℕ) (IsAt : State → S → World → Type 0) (timing : Timing) (law : Law m store IsAt o.given timing v o) where
    cost_is : (s : State) (i : Instr) → instr_at v.image.text s.at ≡ Some i → cost v.image timing i s ≡ next_cost v.image timing s
    cost_is s i code = ap (cost_at v.image timing s) (sym code)

    pub boundary_law : BoundaryLaw m store IsAt o.given (program timing v) (Fine v)
    boundary_law =
        record {
          shows = law.shows;
          goes = λ s to q fine at e.
              let n = next s fine in
              subst (λ (c : ℕ). Moves m store IsAt o.given q c to) (cost_is s n.0 n.1.finds.code)
              (law.takes.goes s to q n.0 tt fine n.1 at (said s n.0 (Goes to) n.1.finds.code e));
          halts = λ s q fine at e.
              let n = next s fine in
              let is : n.0 ≡ Halt = said s n.0 Halts n.1.finds.code e in
              subst (λ (c : ℕ). Stops m store IsAt o.given q c 255) (cost_is s Halt (n.1.finds.code ∙ ap Some is))
              (law.ends.halts s q fine (subst (λ (i : Instr). IsNext v o s i) is n.1) at);
          errs = λ s q fine at e.
              let n = next s fine in
              let is : n.0 ≡ Err = said s n.0 Errs n.1.finds.code e in
              subst (λ (c : ℕ). Stops m store IsAt o.given q c 254) (cost_is s Err (n.1.finds.code ∙ ap Some is))
              (law.ends.errs s q fine (subst (λ (i : Instr). IsNext v o s i) is n.1) at);
          limits = λ s left q fine at e.
              let n = next s fine in
              law.takes.limits s left q n.0 tt fine n.1 at (said s n.0 (Limits left) n.1.finds.code e);
        }
