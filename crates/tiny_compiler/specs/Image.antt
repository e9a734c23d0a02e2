-- The first limit that a program's code exceeds.
use Rattle.std.specs.Prelude.{◌≡◌, ◌≤◌, length, slice_get, Some}
use Rattle.tiny_compiler.specs.Common.{Text, Function, Program, TinyError, JumpTooFar, PoolTooLong, TextTooLong, layout_of}
use Rattle.ijvm_text.specs.Prelude.{IsText, ExceedsJump, ExceedsPool, ExceedsText, Layout, jumps_of, pool_of, text_of}

-- the first limit that is exceeded, and by what
abbrev pub ExceedsBy : Layout → TinyError → Type 0
ExceedsBy l (PoolTooLong count) = ExceedsPool l count
ExceedsBy l (TextTooLong size) = ExceedsText l size
ExceedsBy l (JumpTooFar line far) = ExceedsJump l (line, far)
ExceedsBy l e = ⊥

abbrev pub IsTooLarge : Program → TinyError → Type 0
IsTooLarge program e = (main : Function) × (slice_get program.functions program.main ≡ Some main) × ExceedsBy (layout_of program main) e

-- where the pool is within its limit, and this is the text, another limit is exceeded by this
abbrev pub TextExceedsBy : Text → TinyError → Type 0
TextExceedsBy text e = (l : Layout) → IsText text (text_of l) (jumps_of l) → length (pool_of l) ≤ 16384 → ExceedsBy l e
