-- The words of this crate, for those that use it.
pub use Rattle.ijvm_meaning.specs.Cost.{Timing, are_equal, column, cost, cost_at, cycles_of, entry_of, is_taken, next_cost, tests, timing_of}
pub use Rattle.ijvm_meaning.specs.Frames.{AreWords, Frame, HasWords, IsWord, State, base, frame_end, frames_of, kept_words, lv_of, operands_at, sp_of, start_of, top_of}
pub use Rattle.ijvm_meaning.specs.Limited.{KeepsAtLimit, keeps_at_limit, limits-same, same_frames}
pub use Rattle.ijvm_meaning.specs.Run.{EndsBy, Finish, GoesOnInWords, More, Passes, Point, Start, TimedImage, after, after_outcome, after_test, completed, finish_from, first_point, point_after, state_after, stopped}
pub use Rattle.ijvm_meaning.specs.Safe.{ComesTo, Here, IsSafe, NeverStuck, On, SameFrames}
pub use Rattle.ijvm_meaning.specs.Step.{Errs, Goes, Halts, Limits, StepOutcome, Stuck, branched, called, called_at, combined, compared, doubled, entered, given_out, in_method, increased, is_own, limited, loaded, moved, onto, popped, pushed, pushed_constant, read_in, returned, step, step_if_any, step_outcome, stored, swapped, taken, way, with_local}
