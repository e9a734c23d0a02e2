-- The words of other crates that these proofs use.
pub use Rattle.std.proofs.Common.{List, None, SFits, Some, [], ap, append-nil, arith, codes, drop, get_or, length, length-append, map, negsuc, of_z, pos, refl}
pub use Rattle.std.proofs.Common.{rules, subst, sym, to_z, zero-add, ℕ, ℤ, ◌++◌, ◌+◌, ◌-ℤ◌, ◌<◌, ◌^◌, ◌∙◌, ◌∷◌, ◌≡◌, ◌≤◌}
pub use Rattle.std.proofs.lemmas.Int.{ints, to_z-of_z}
pub use Rattle.std.proofs.lemmas.List.{drop_all, drop_more, get_or_default, length-map}
pub use Rattle.std.proofs.lemmas.List.Sums.{sum_by-take-le, sum_by_more}
pub use Rattle.std.proofs.lemmas.Result.{on_ok_weaker}
pub use Rattle.std.specs.Int.{w32}
pub use Rattle.std.specs.List.{enumerate_from, flat_map, range_with_len, sum_by}
pub use Rattle.ijvm_instr.specs.declared.instr.Instr.{Instr}
pub use Rattle.ijvm_instr.specs.declared.instr.Instr.TheVariants.{Bipush, Dup, Halt, Iadd, Iload, In, Ireturn, Istore, Out}
pub use Rattle.ijvm_program.specs.Prelude.{ProgramView, UnitView, line_address, line_size}
pub use Rattle.ijvm_program.specs.declared.line.CodeLine.{CodeLine}
pub use Rattle.ijvm_program.specs.declared.line.Constant.{Constant}
pub use Rattle.ijvm_program.specs.declared.line.Jump.TheVariants.{Goto, IfIcmpeq}
pub use Rattle.ijvm_program.specs.declared.line.Operation.{Operation}
pub use Rattle.ijvm_text.specs.Prelude.{Adds, AddsPart, AddsParts, AreUnits, begins, joined, length-begins, no_code, no_parts, part_then, pool_of, text_of}
pub use Rattle.ijvm_text.specs.Prelude.{then, whole}
unfoldable pub use Rattle.ijvm_text.specs.Prelude.{code_bytes}
pub use Rattle.ijvm_text.specs.declared.text.Text.{Text}
pub use Rattle.ijvm_text.specs.declared.units.Units.{Units}
pub use Rattle.method_linker.specs.Prelude.{AddsLine, AddsLines, AddsUnit, distance, entries_of, header_of, line_instr, line_jumps, method_part, pool_size}
unfoldable pub use Rattle.method_linker.specs.Prelude.{layout_of, line_places, unit_code, unit_jumps}
