-- The words of this crate, for those that use it.
pub use Rattle.cli_debug.specs.Debugged.{Cut, EndsDebug, IsDebugged, IsStart, Left, Stopped, report_in}
pub use Rattle.cli_debug.specs.Debugging.{DebuggingView, debugging, debugging_view}
pub use Rattle.cli_debug.specs.Stand.{IsBrokenOff, is_quit, is_quit_reply, is_quit_verb}
