-- HALT and ERR.
use Rattle.mic1_interpreter.proofs.Common.{◌≡◌, ℕ, false, List, [], ◌∷◌, refl, arith, inr, Mic1, byte_in, State, timing_of, VerifiedView, Micro, mic1_meaning}
use Rattle.mic1_interpreter.proofs.Common.{Origin, Moment, Loads, Stops, HaltsAndErrs, Stands}
use Rattle.ijvm_instr.specs.declared.instr.Instr.TheVariants.{Err, Halt}
use Rattle.mic1_interpreter.proofs.Store.{HasStatements}
use Rattle.mic1_interpreter.proofs.Boundaries.{At, at, opcode, after, passes, begins}

-- the microstep at Main1 comes to the address of the opcode
stops : {program : List ℕ} {o : Origin} {v : VerifiedView} {s : State} {q : Moment Micro} (a : At program o v s q) (code : ℕ) → byte_in o.words s.at ≡ code →
    mic1_meaning.is_boundary (after a 0 (code ∷ [])).state ≡ false → Stops mic1_meaning program (Stands o) o.given q 1 code
stops a code is off =
    inr (record {
      n = 0;
      spent_is = refl;
      short = omega arith;
      begins = begins a;
      there = after a 0 (code ∷ []);
      passes = passes a 0 (code ∷ []) (assumption (opcode a is));
      off = off;
      mpc_is = refl;
      world = refl;
    })

pub ends : (program : List ℕ) → HasStatements program → (o : Origin) (v : VerifiedView) → Loads v o →
    HaltsAndErrs mic1_meaning program (Stands o) o.given (timing_of Mic1) v o
ends program has o v loads = record {
  halts = λ s q fine n h. stops (at Halt has loads n h) 0xFF n.reads refl;
  errs = λ s q fine n h. stops (at Err has loads n h) 0xFE n.reads refl;
}
