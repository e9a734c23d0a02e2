-- The words of this crate, for those that use it.
pub use Rattle.cli_rewind.specs.Commands.{command_of, is_quit}
pub use Rattle.cli_rewind.specs.Lines.{back_text, forward_text}
pub use Rattle.cli_rewind.specs.Moves.{IsFront, IsMoved, IsPassedOn, IsShown, IsTold, IsToldInPart, Scene, WasCut, scene}
pub use Rattle.cli_rewind.specs.Rewinding.{Lasts, RewindingRules, RewindingView, rewinding, rewinding_view, rules_of}
pub use Rattle.cli_rewind.specs.Rewound.{EndsRewind, IsRewound, status_after}
pub use Rattle.cli_rewind.specs.Stand.{Cut, Does, Follows, GoesForward, IsBrokenOff, IsCutForward, IsCutIn, Stand, StandsAt, StopsBy, Told, at_reset, back, history_at, kept, run_at, shown_run, state_at, state_here, states_from}
