-- The words of other crates that these proofs use.
pub use Rattle.std.proofs.Common.{Bool, Err, FitsSigned, IfErr, List, None, Ok, Result, Some, [], ap, append_assoc, arith, cond, eq-eqb, false, if◌then◌else◌}
pub use Rattle.std.proofs.Common.{inl, inr, length, length-append, lt-ltb, map, nat_le, nat_lt, neg_ℤ, negsuc, not, pos, refl, slice_get, slice_index, subst}
pub use Rattle.std.proofs.Common.{suc, sym, true, zero, ℕ, ℤ, ⊎_elim, ◌%◌, ◌++◌, ◌+◌, ◌/◌, ◌<◌, ◌==◌, ◌^◌, ◌||◌, ◌∙◌, ◌∷◌, ◌≡◌, ◌≢◌, ◌≤◌, ◌⊎◌}
pub use Rattle.std.proofs.lemmas.Bool.Decides.{eqb_tells, leb_tells}
pub use Rattle.std.proofs.lemmas.List.Elements.{All-cons, All-head, All-nil, All-tail, Contains-append_right}
pub use Rattle.std.proofs.lemmas.Option.{none-some, same_Some}
pub use Rattle.std.specs.Int.{w16, w8}
pub use Rattle.std.specs.List.{All, Contains, filter, position_or_len, zip}
pub use Rattle.ijvm_instr.specs.Prelude.{AreInRange, HasLines, IsInstr, Jump, distance_in, distances, first_far, is_far, jumps_of, row_of}
pub use Rattle.ijvm_instr.specs.declared.instr.Instr.{Instr}
pub use Rattle.ijvm_instr.specs.declared.row.Operands.{Operands}
pub use Rattle.ijvm_instr.specs.declared.row.Operands.TheVariants.{Offset}
pub use Rattle.ijvm_image.specs.Prelude.{ImageView, header}
unfoldable pub use Rattle.ijvm_image.specs.Prelude.{others, params}
pub use Rattle.ijvm_meaning.specs.Prelude.{timing_of}
pub use Rattle.verifier_facts.specs.Prelude.{IsMainCount, VerifiedView, one_count}
pub use Rattle.ijvm_text.specs.Prelude.{AreUnits, IsImageOf, Layout, Part, begins, bytes_of, code_bytes, jumps_in, length-begins, pool_of, text_of}
pub use Rattle.ijvm_text.specs.declared.units.Units.{Units}
pub use Rattle.tiny_tree.specs.declared.tree.Function.{Function}
pub use Rattle.tiny_tree.specs.declared.tree.Operator.{Operator}
pub use Rattle.tiny_tree.specs.declared.tree.Operator.TheVariants.{Plus}
pub use Rattle.tiny_parser.specs.Prelude.{IsRefused, Spells}
pub use Rattle.tiny_parser.specs.declared.error.TinyError.{TinyError}
pub use Rattle.tiny_parser.specs.declared.error.TinyError.TheVariants.{JumpTooFar, PoolTooLong, TextTooLong}
pub use Rattle.tiny_pool.specs.Prelude.{IsTableOf, numbers_in}
pub use Rattle.tiny_pool.specs.declared.table.Table.{Table}
pub use Rattle.tiny_emit.specs.Prelude.{program_of}
pub use Rattle.tiny_compiler.specs.Prelude.{ExceedsBy, HasNoCode, IsCompiled, IsTooLarge, NoProgram, TooLarge}
