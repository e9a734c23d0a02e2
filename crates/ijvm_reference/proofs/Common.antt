-- The words of other crates that these proofs use.
pub use Rattle.std.proofs.Common.{Bool, Err, IfNone, IfSome, IsSome, List, None, Ok, OnErr, Option, Result, Some, [], ap, append-nil, append_assoc, ap₂, arith}
pub use Rattle.std.proofs.Common.{bit_and, bit_or, drop, false, if◌then◌else◌, inl, inr, is_some, le-leb, leb-false, leb-true, length, length-append}
pub use Rattle.std.proofs.Common.{length-drop, length-take-le, map, nat_le, nat_lt, refl, replicate, reverse, rules, slice_get, slice_index, subst, suc, sym}
pub use Rattle.std.proofs.Common.{take, take-append-drop, true, zero, ℕ, ℤ, ◌%◌, ◌&&◌, ◌++◌, ◌+◌, ◌-◌, ◌<◌, ◌==◌, ◌∙◌, ◌∷◌, ◌≡◌, ◌≢◌, ◌≤◌}
pub use Rattle.std.proofs.lemmas.Bool.{and_parts, cond-false, cond-true, lt-leb}
pub use Rattle.std.proofs.lemmas.Bool.Decides.{nat_tests}
pub use Rattle.std.proofs.lemmas.List.{append_cancel_left, length-replicate, reverse-append, take_rest}
pub use Rattle.std.proofs.lemmas.Result.{err_from_is_err_and}
pub use Rattle.std.specs.Option.{option_map}
pub use Rattle.std.specs.declared.alloc.AllocError.{AllocError}
pub use Rattle.mic_words.specs.declared.machine.Machine.{Machine}
pub use Rattle.mic_words.specs.declared.machine.Machine.TheVariants.{Mic1, Mic2}
pub use Rattle.mic_base.specs.Prelude.{Holds}
pub use Rattle.console_port.specs.Prelude.{Asks, ConsoleView, Given, IsLost, LosesLast, SinkGoesOn, SourceGoesOn, TellsLeft, Untaken, next_byte}
pub use Rattle.ijvm_instr.specs.Prelude.{instr_at, row_of, word_of}
pub use Rattle.ijvm_instr.specs.declared.instr.Instr.{Instr}
pub use Rattle.ijvm_instr.specs.declared.instr.Instr.TheVariants.{Bipush, Dup, Halt, Iadd, Iand, IfIcmpeq, Ifeq, Iflt, Iinc, Iload, In, Invokevirtual, Ior}
pub use Rattle.ijvm_instr.specs.declared.instr.Instr.TheVariants.{Ireturn, Istore, Isub, LdcW, Nop, Out, Pop, Swap, WideIinc, WideIload, WideIstore}
pub use Rattle.ijvm_instr.specs.declared.row.Cost.{Cost}
pub use Rattle.ijvm_instr.specs.declared.row.Cost.TheVariants.{Always, ByEntry, IfTaken}
pub use Rattle.ijvm_instr.specs.declared.row.Row.{Row}
pub use Rattle.ijvm_image.specs.Prelude.{ImageView, method_at}
pub use Rattle.ijvm_image.specs.declared.method.Method.{Method}
pub use Rattle.ijvm_meaning.specs.declared.run.RunEnd.{RunEnd}
pub use Rattle.ijvm_reference.specs.declared.compute.Effect.{Effect}
pub use Rattle.ijvm_reference.specs.declared.frames.StepEnd.{StepEnd}
pub use Rattle.ijvm_reference.specs.declared.frames.StepError.{StepError}
pub use Rattle.ijvm_reference.specs.declared.plain.Counts.{Counts}
pub use Rattle.ijvm_reference.specs.declared.plain.PlainEnd.{PlainEnd}
pub use Rattle.ijvm_reference.specs.declared.plain.PlainReport.{PlainReport}
