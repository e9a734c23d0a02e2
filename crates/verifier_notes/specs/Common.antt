-- The words of other crates that this one uses.
pub use Rattle.std.proofs.lemmas.Option.{none-some, same_Some}
pub use Rattle.std.specs.List.{flat_map}
pub use Rattle.std.specs.Option.{option_map}
pub use Rattle.ijvm_instr.specs.Prelude.{IsInstr, row_of, size_of, spelling, target}
unfoldable pub use Rattle.ijvm_instr.specs.Prelude.{instr_at}
pub use Rattle.ijvm_instr.specs.declared.instr.Instr.{Instr}
pub use Rattle.ijvm_instr.specs.declared.row.Flow.{Flow}
pub use Rattle.ijvm_image.specs.declared.method.Method.{Method}
pub use Rattle.ijvm_image.specs.Prelude.{ImageView}
unfoldable pub use Rattle.ijvm_image.specs.Prelude.{others, params}
pub use Rattle.verifier_facts.specs.Prelude.{GoesOn, HasConstant, need_by, ways_of}
