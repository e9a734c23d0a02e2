-- The words of this crate, for those that use it.
pub use Rattle.mic_clock.specs.Board.{AreCounts, BoundIsCutByWrite, EndsUncounted, GoesOn, HasEndCause, InTime, IsBelow, IsCounted, IsCountedTurn, IsCut, IsCutAt, IsCutByFault, IsCutByRead, IsCutByWrite, IsLedTo, IsOnlyFlushed, IsReached, IsRun, IsRunInside, IsStill, IsTurned, IsTurnedInside, KeepsInTime, Leads, NoFault, RunIsCutByRead, RunIsCutByWrite, ShowsAs, ShowsRun, TurnIsCut, is_completed, tick_of}
pub use Rattle.mic_clock.specs.Cycle.{IsAtEdge, IsDecoded, IsUnderWay}
pub use Rattle.mic_clock.specs.Edge.{IsEdge, IsEdgeInside, IsEdgeOver, IsTried, LetsBytesWait}
pub use Rattle.mic_clock.specs.Going.{cause-flushed, cause-lost, front_lost, goes-flushed, goes-nowhere, goes-then, last_lost, no_fault}
pub use Rattle.mic_clock.specs.Meaning.{Done, Meaning, Outcome, ReadsConsole, Refused, UsesConsole, WritesConsole, given_by, refusal_in, unless_refused, untaken_by}
pub use Rattle.mic_clock.specs.Passed.{edge_passed, handed_on}
pub use Rattle.mic_clock.specs.Parts.{AreParts, ChangesByTurn, board_of, counts_of}
pub use Rattle.mic_clock.specs.Reach.{IsCutByWrite-lost, IsLedTo-map, IsLedTo-stays, Leads-along, Leads-flushed, Leads-on}
pub use Rattle.mic_clock.specs.Rule.{CountsCycle, CountsEnd, EndsAt, EndsBefore, IsTurn, StepsTo}
pub use Rattle.mic_clock.specs.Run.{Buses, HasOneEnd, IsClocking, IsInside, IsLeg, MicroRun, after_end_or_step, after_step, bounded, bounded_by, buses, buses_in, buses_of, completes, counts_after, counts_at, counts_between, counts_ended, end_before, end_by, last_cycles, number_of, since, start_buses, start_counts, start_run, turn, turn_by, turns, word_at}
pub use Rattle.mic_clock.specs.State.{rows_text, state_line, word}
pub use Rattle.mic_clock.specs.Turns.{bounded-running, bounded-world, cycles_in, turn-counts, turn_by_ended, turns-earlier, turns-last, turns-plus, turns-stay, turns-suc, turns-uncounted}
pub use Rattle.mic_clock.specs.View.{BoardView, SubcyclesView}
