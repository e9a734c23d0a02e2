-- The words of this crate, for those that use it.
pub use Rattle.mic_base.specs.Causes.{HasCause, Rose, no_rise}
pub use Rattle.mic_base.specs.Digits.{value_of}
unfoldable pub use Rattle.mic_base.specs.Digits.{hex_text}
pub use Rattle.mic_base.specs.Decimals.{signed_decimal_short}
pub use Rattle.mic_base.specs.Files.{Contents, KeepsAll, KeepsOthers, Tells, file_in, most_bytes}
pub use Rattle.mic_base.specs.Memory.{files_contents, files_faults, sink_bytes, sink_faults, sink_passed, source_faults, source_left}
pub use Rattle.mic_base.specs.Name.{begins_digit, is_name, is_name_byte}
pub use Rattle.mic_base.specs.Number.{quoted}
unfoldable pub use Rattle.mic_base.specs.Number.{number_of}
pub use Rattle.mic_base.specs.Plain.{plain_left}
pub use Rattle.mic_base.specs.Putting.{puts_first, puts_nothing, puts_passed, puts_then}
pub use Rattle.mic_base.specs.Streams.{Holds, IsFlushed, KeepsFront, Puts, PutsAndFlushes, ReadsNext}
