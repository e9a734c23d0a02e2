-- The words of this crate, for those that use it.
pub use Rattle.cli_session.specs.Commands.{is_quit_in}
unfoldable pub use Rattle.cli_session.specs.Commands.{command_in}
pub use Rattle.cli_session.specs.Fronts.{IsFront, front_given, front_lost, front_same, front_then, held_front, in_part, is_untaken, on_err_of, one_untaken, turn_gives, untaken_of}
pub use Rattle.cli_session.specs.Giving.{OnlyGives}
pub use Rattle.cli_session.specs.Goes.{ConsoleFailed, Goes, On, Over, SinkFailed, step_after}
pub use Rattle.cli_session.specs.Input.{EndsWithInput, HasInput, IsNoInput, NoInput}
pub use Rattle.cli_session.specs.Lines.{IsCutIn, IsNext, IsReadOn, IsReadOut, MayGoOn, left_after, lines_of, most_lines}
pub use Rattle.cli_session.specs.Meaning.{AreDone, AtOnce, DoesAll, Gone, IsCutShort, IsFrontOf, Place, SessionMeaning, Then, place}
pub use Rattle.cli_session.specs.Table.{CommandForm, command_form, form_of, row_in}
pub use Rattle.cli_session.specs.Texts.{state_text, word_line, word_text}
unfoldable pub use Rattle.cli_session.specs.Texts.{end_line}
pub use Rattle.cli_session.specs.Told.{IsCutLine, IsFirstLine, ReadsLine, ReadsLineOf, after_line, line_in}
