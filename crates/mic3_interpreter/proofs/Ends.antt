-- HALT and ERR: MPC is the opcode, so the run ends at the boundary.
use Rattle.mic3_interpreter.proofs.Common.{ℕ, List, refl, ◌∙◌, inl, VerifiedView, mic3_meaning, mic3_timing, Stands}
use Rattle.ijvm_simulation.specs.Prelude.{Origin, HaltsAndErrs}

pub ends : (program : List ℕ) (o : Origin) (v : VerifiedView) → HaltsAndErrs mic3_meaning program (Stands o) o.given mic3_timing v o
ends program o v = record {
  halts = λ s q fine n h. inl (record { spent_is = refl; mpc_is = h.ready.micro.mpc ∙ n.reads });
  errs = λ s q fine n h. inl (record { spent_is = refl; mpc_is = h.ready.micro.mpc ∙ n.reads });
}
