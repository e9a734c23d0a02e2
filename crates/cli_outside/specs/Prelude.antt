-- The words of this crate, for those that use it.
pub use Rattle.cli_outside.specs.Given.{given_back}
pub use Rattle.cli_outside.specs.Messages.{message, of_file, of_line, out_of_memory}
pub use Rattle.cli_outside.specs.Outside.{FilesState, Got, GotInPart, LentView, OutsideView, Over, PrintsOnOut, PutsAfter, Said, Says, SaysTo, SinkState, SourceState, TellsOnErr, Unsaid, files_of, files_state, name_in, outside_view, sink_of, sink_state, source_of, source_state, with_files}
pub use Rattle.cli_outside.specs.Ways.{by_reason, did, not_had, refused, short, unread}
pub use Rattle.cli_outside.specs.Work.{Did, Ends, IsFileRead, IsHad, IsNotHad, IsRefusal, IsUnread, NotHad, OverIfErr, PrintsTextOf, WritesThenPrints, refusal_by}
