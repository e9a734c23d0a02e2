-- The words of other crates that these proofs use.
pub use Rattle.std.proofs.Common.{Contains, List, None, Option, Some, [], ap, arith, eq-eqb, eqb-true, inl, inr, length, length-append, refl, rules, slice_get}
pub use Rattle.std.proofs.Common.{slice_index_or, subst, suc, sym, true, zero, ℕ, ◌*◌, ◌++◌, ◌+◌, ◌<◌, ◌==◌, ◌∙◌, ◌∷◌, ◌≡◌, ◌≢◌, ◌≤◌, ◌⊎◌}
pub use Rattle.std.proofs.lemmas.Bool.{cases_eq, cases_lt}
pub use Rattle.std.proofs.lemmas.List.Quantifiers.{all_pairs_push}
pub use Rattle.std.proofs.lemmas.Option.{same_Some, slice_get-get_or, slice_get_read, slice_get_within}
pub use Rattle.std.proofs.lemmas.Result.{err_from_is_err_and}
pub use Rattle.console_port.specs.Prelude.{IsMap}
pub use Rattle.console_port.specs.declared.map.MemoryMap.{MemoryMap}
pub use Rattle.ijvm_instr.specs.Prelude.{row_of, size_of}
pub use Rattle.ijvm_instr.specs.declared.row.Row.{Row}
pub use Rattle.ijvm_image.specs.Prelude.{ImageView}
pub use Rattle.verifier_facts.specs.Prelude.{Accepts, Arrival, Code, Covers, HasRow, Header, IsKind, IsMainCount, IsMethodCount, IsReachedMethod, IsTrueOf}
pub use Rattle.verifier_facts.specs.Prelude.{IsVerified, KeepsSound, Names, Piece, Reached, VerifiedView, at_most, first}
pub use Rattle.verifier_facts.specs.declared.error.VerifyError.{VerifyError}
pub use Rattle.verifier_facts.specs.declared.error.VerifyError.TheVariants.{MainFrame, OutOfMemory, Overlap, UnsetLocal}
pub use Rattle.verifier_facts.specs.declared.kind.Kind.{Kind}
pub use Rattle.verifier_reach.specs.Prelude.{IsClosed, IsDecided, kept_at, kept_of, method_inside}
pub use Rattle.verifier_reach.specs.declared.kept.Kept.{Kept}
pub use Rattle.verifier_locals.specs.Prelude.{IsGraph, IsNodeOf}
pub use Rattle.verifier_locals.specs.declared.graph.Node.{Node}
pub use Rattle.ijvm_verifier.specs.Prelude.{AreMethodsBelow, IsCounted, IsSurvey, IsSwept, NodeNames, rank}
