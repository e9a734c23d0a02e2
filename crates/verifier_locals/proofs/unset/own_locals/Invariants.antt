use Rattle.verifier_locals.proofs.Common.{ℕ, ◌<◌, ◌+◌, ◌*◌, ◌↔◌, IsOwn, Has}
use Rattle.verifier_locals.proofs.unset.own_locals.Given as goal

abbrev pub invariant-loop-place : goal.invariant-loop-place
invariant-loop-place l = (p : ℕ) → p < 64 → Has l.locals p ↔ ((p < l.place) × IsOwn l.image.text l.wanted.entry (64 * l.wanted.group + p))
