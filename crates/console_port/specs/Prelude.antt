-- The words of this crate, for those that use it.
pub use Rattle.console_port.specs.Access.{IsAccess, IsByMap}
pub use Rattle.console_port.specs.Bus.{ChangesOnly, FailsAsRefused, IsDoneUnless, IsLed, IsRead, Shows, Stands, refused_by}
pub use Rattle.console_port.specs.Console.{Asks, Given, Gives, HasFaultCause, IsFault, IsLost, LosesLast, StaysFlushed, StillTells, TellsLeft, Untaken, most_kept}
pub use Rattle.console_port.specs.Loading.{HasTextWords, IsLoaded, big_endian_word, text_word}
pub use Rattle.console_port.specs.Map.{IsMap}
pub use Rattle.console_port.specs.Pages.{ArePaged, HasRoom, place_in_frames}
unfoldable pub use Rattle.console_port.specs.Pages.{empty_frame, framed, words_of}
pub use Rattle.console_port.specs.Streams.{SinkGoesOn, SourceGoesOn, StreamsGoOn}
pub use Rattle.console_port.specs.View.{BusView, ConsoleView, KeepsMemoryAndInput}
pub use Rattle.console_port.specs.World.{OutOfMap, Refusal, StackLimit, World, after_read, after_write, byte_of, console_at, fault_of, next_byte}
unfoldable pub use Rattle.console_port.specs.World.{byte_in, fetch_refusal, given_after, read_refusal, read_value, untaken_after, word_refusal, write_refusal}
