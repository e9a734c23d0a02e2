-- HALT and ERR: MPC is the opcode, so the run ends at the boundary.
use Rattle.mic2_interpreter.proofs.Common.{ℕ, List, refl, ◌∙◌, inl, Mic2, timing_of, VerifiedView, Origin, HaltsAndErrs, Stands}
use Rattle.mic2_datapath.specs.Prelude.{mic2_meaning}

pub ends : (program : List ℕ) (o : Origin) (v : VerifiedView) → HaltsAndErrs mic2_meaning program (Stands o) o.given (timing_of Mic2) v o
ends program o v = record {
  halts = λ s q fine n h. inl (record { spent_is = refl; mpc_is = h.ready.mpc ∙ n.reads });
  errs = λ s q fine n h. inl (record { spent_is = refl; mpc_is = h.ready.mpc ∙ n.reads });
}
