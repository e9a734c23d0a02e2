-- The words of other crates that this one uses.
pub use Rattle.std.specs.declared.alloc.AllocError.{AllocError}
pub use Rattle.mic_words.specs.Prelude.{is_negative, minus, plus}
pub use Rattle.mic_words.specs.declared.machine.Machine.{Machine}
pub use Rattle.mic_base.specs.Prelude.{Rose}
pub use Rattle.console_port.specs.Prelude.{ConsoleView, Given, Gives, IsFault, IsLost, LosesLast, SinkGoesOn, SourceGoesOn, TellsLeft, Untaken, next_byte}
pub use Rattle.console_port.specs.declared.map.MemoryMap.{MemoryMap}
pub use Rattle.ijvm_instr.specs.Prelude.{instr_at, target}
pub use Rattle.ijvm_instr.specs.declared.instr.Instr.{Instr}
pub use Rattle.ijvm_instr.specs.declared.instr.Instr.TheVariants.{Err, Halt, In, Out}
pub use Rattle.ijvm_image.specs.Prelude.{ImageView, method_at}
pub use Rattle.ijvm_image.specs.declared.method.Method.{Method}
pub use Rattle.ijvm_meaning.specs.Prelude.{EndsBy, Errs, Finish, Frame, Goes, Halts, IsSafe, IsWord, Limits, NeverStuck, Passes, Point, SameFrames, State}
pub use Rattle.ijvm_meaning.specs.Prelude.{StepOutcome, Stuck, TimedImage, are_equal, base, branched, called_at, combined, compared, doubled, first_point}
pub use Rattle.ijvm_meaning.specs.Prelude.{given_out, in_method, increased, is_own, loaded, lv_of, moved, next_cost, point_after, popped, pushed}
pub use Rattle.ijvm_meaning.specs.Prelude.{pushed_constant, read_in, returned, sp_of, start_of, step, step_outcome, stored, swapped, timing_of, top_of, way}
pub use Rattle.ijvm_meaning.specs.declared.run.RunEnd.{RunEnd}
