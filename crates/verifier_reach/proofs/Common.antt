-- The words of other crates that these proofs use.
pub use lib.Dec.{eqb}
pub use Rattle.std.proofs.Common.{Bool, Contains, IfSome, List, None, Option, Some, [], ap, arith, cond, eq-eqb, false, inl, inr, le-ltb, length, length-append}
pub use Rattle.std.proofs.Common.{length-set, ltb-true, nat_lt, not, refl, replicate, slice_get, slice_set, subst, suc, sym, true, zero, ℕ, ◌*◌, ◌++◌, ◌+◌, ◌-◌}
pub use Rattle.std.proofs.Common.{◌<◌, ◌∙◌, ◌∷◌, ◌≡◌, ◌≢◌, ◌≤◌}
pub use Rattle.std.proofs.lemmas.Bool.{cases_eq}
pub use Rattle.std.proofs.lemmas.Int.{ints, to_z-of_z}
pub use Rattle.std.proofs.lemmas.List.{length-replicate}
pub use Rattle.std.proofs.lemmas.Option.{same_Some, slice_get-get_or, slice_get_read, slice_get_within}
pub use Rattle.std.proofs.lemmas.Result.{err_from_is_err_and, on_ok_weaker}
pub use Rattle.std.specs.Option.{option_eq, option_map}
pub use Rattle.ijvm_instr.specs.Prelude.{row_of, size_of, target}
unfoldable pub use Rattle.ijvm_instr.specs.Prelude.{instr_at, of_bytes}
pub use Rattle.ijvm_instr.specs.declared.instr.Instr.{Instr}
pub use Rattle.ijvm_instr.specs.declared.row.Flow.{Flow}
pub use Rattle.ijvm_instr.specs.declared.row.Flow.TheVariants.{Call, Return}
pub use Rattle.ijvm_instr.specs.declared.row.Row.{Row}
pub use Rattle.ijvm_image.specs.Prelude.{ImageView, method_at, others, params}
pub use Rattle.verifier_facts.specs.Prelude.{Arrival, Code, GoesOn, HasConstant, HasJump, HasNext, HasRow, Into, IsNoCall, IsTrueOf, IsWhole, IsWrongAt, Names}
pub use Rattle.verifier_facts.specs.Prelude.{On, Reached, Start, Then, arrival, callee, left_unset, need_by, need_of}
pub use Rattle.verifier_facts.specs.declared.error.VerifyError.{VerifyError}
pub use Rattle.verifier_reach.specs.Prelude.{Grows, IsChecked, IsClosed, IsDecided, IsDone, IsKept, IsRunning, IsSearch, States, empties, get_set_other}
pub use Rattle.verifier_reach.specs.Prelude.{get_set_same, kept_at, kept_of}
pub use Rattle.verifier_reach.specs.declared.kept.Kept.{Kept}
