-- The words of other crates that these proofs use.
pub use Rattle.std.proofs.Common.{Bool, List, None, Option, Some, [], ap, append-nil, append_assoc, arith, drop, eq-eqb, false, if◌then◌else◌, inl, inr, le-leb}
pub use Rattle.std.proofs.Common.{leb-false, leb-true, length, lt-ltb, map, nat_le, neg_ℤ, not, pos, refl, replicate, slice_get, slice_index, slice_set, subst}
pub use Rattle.std.proofs.Common.{suc, sym, take, true, zero, ℕ, ℤ, ⊎_elim, ◌%◌, ◌++◌, ◌+◌, ◌<◌, ◌==◌, ◌↔◌, ◌∙◌, ◌∷◌, ◌≡◌, ◌≢◌, ◌≤◌, ◌⊎◌}
pub use Rattle.std.proofs.lemmas.Bool.Decides.{eqb_tells}
pub use Rattle.std.proofs.lemmas.List.Elements.{All-head}
pub use Rattle.std.proofs.lemmas.Option.{same_Some}
pub use Rattle.mic_words.specs.declared.machine.Machine.{Machine}
pub use Rattle.mic_words.specs.declared.machine.Machine.TheVariants.{Mic1, Mic2}
pub use Rattle.ijvm_instr.specs.Prelude.{instr_at, row_of, size_of, target}
pub use Rattle.ijvm_instr.specs.declared.instr.Instr.{Instr}
pub use Rattle.ijvm_instr.specs.declared.instr.Instr.TheVariants.{Bipush, Goto, Halt, Iadd, Iand, Iflt, In, Invokevirtual, Ior, Ireturn, Istore, Isub, LdcW}
pub use Rattle.ijvm_instr.specs.declared.instr.Instr.TheVariants.{Out, Pop}
pub use Rattle.ijvm_image.specs.Prelude.{ImageView, method_at, others, params}
pub use Rattle.tiny_tree.specs.declared.tree.Operator.{Operator}
pub use Rattle.tiny_tree.specs.declared.tree.Operator.TheVariants.{And, Minus, Or, Plus}
pub use Rattle.tiny_runs.specs.Prelude.{Advances, IsPrefix, output, runs_of}
