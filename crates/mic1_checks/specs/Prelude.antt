-- The words of this crate, for those that use it.
pub use Rattle.mic1_checks.specs.Boot.{BOOT, CarriesBoot, IsReset}
pub use Rattle.mic1_checks.specs.Carried.{AreAtBoundary, AreAtLimit, CarriedBy, CarriesInstruction, CarriesOver, Onward}
pub use Rattle.mic1_checks.specs.Ends.{EndsAfter, HasEnded, HasEndedAfter, TakesEnds}
pub use Rattle.mic1_checks.specs.Left.{AreLeft, HasTop}
pub use Rattle.mic1_checks.specs.Listed.{CarriesEach, CarriesTakes, instructions, plain, row_number, wide}
pub use Rattle.mic1_checks.specs.Ready.{IsReadyOrArriving, shape_of}
pub use Rattle.mic1_checks.specs.Situation.{HasBytes, HasOperand, IsKnown, StandsBefore, StartsBefore, Suits}
pub use Rattle.mic1_checks.specs.Spent.{Agree, CarriesAll, DecideSeconds, GoesOn, MovesOn, cost_by, second_in, spent_by, timing_by}
pub use Rattle.mic1_checks.specs.Start.{HasRegisters, IsStart, register_ranges, shaped_symbols, start_moment}
pub use Rattle.mic1_checks.specs.Transfer.{AreAlike, Carries, IsNoEnd, LeadAlike, LimitAlike, OneEnd, Transfers, TransfersLimits}
pub use Rattle.mic1_checks.specs.Words.{HasWords, free_words}
