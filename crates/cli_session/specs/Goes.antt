-- How a session goes on line by line, between the console and the two sinks.
use Rattle.std.specs.Prelude.{◌≡◌, ℕ, Bool, true, false, List, Some, IfSome}
use Rattle.mic_base.specs.Prelude.{Rose}
use Rattle.cli_outside.specs.Prelude.{LentView}
use Rattle.cli_session.specs.declared.line.Read.{Read}
use Rattle.cli_session.specs.declared.line.Read.TheVariants as reads
use Rattle.cli_session.specs.declared.lines.Step.{Step}
use Rattle.cli_session.specs.declared.lines.Step.TheVariants as steps
use Rattle.cli_session.specs.Lines.{IsCutIn, IsNext, IsReadOn, IsReadOut}
use Rattle.cli_session.specs.Meaning.{AreDone, IsCutShort, Place, SessionMeaning, place}

abbrev pub step_of : Read → Step
step_of reads.Line = steps.On
step_of reads.Last = steps.Over
step_of reads.Nothing = steps.Over

-- how a session goes on after a line: one that quits, or is the last, is followed by none
abbrev pub step_after : Read → Bool → Step
step_after read true = steps.Over
step_after read false = step_of read

module _ {Seen Rules Stand : Type 0} (m : SessionMeaning Seen Rules Stand) where
  -- the lines by which a session comes to a place, of at most `most`, where at most `more` may follow
  pub data Goes (most more : ℕ) (old new : Place Seen) : Step → Type 0 where
    On : (lines : List (List ℕ)) → AreDone m lines old new → new.seen.console.faults ≡ old.seen.console.faults →
        IfSome old.seen.console.left (λ bytes. (rest : List ℕ) × (new.seen.console.left ≡ Some rest)
        × IsReadOn (m.quits old.session) most more bytes lines rest) → Goes most more old new steps.On
    Over : (lines : List (List ℕ)) → AreDone m lines old new → new.seen.console.faults ≡ old.seen.console.faults →
        IfSome old.seen.console.left (λ bytes. IsReadOut (m.quits old.session) most bytes lines new.seen.console.left) →
        Goes most more old new steps.Over
    ConsoleFailed : (lines : List (List ℕ)) → AreDone m lines old new → Rose old.seen.console.faults new.seen.console.faults →
        IfSome old.seen.console.left (λ bytes. IsCutIn (m.quits old.session) most bytes lines new.seen.console.left) →
        Goes most more old new steps.ConsoleFailed
    -- a sink failed in the line after these
    SinkFailed : (lines : List (List ℕ)) (line : List ℕ) (mid : Place Seen) → AreDone m lines old mid →
        new.seen.console.faults ≡ old.seen.console.faults →
        IfSome old.seen.console.left (λ bytes. IsNext (m.quits old.session) most bytes lines line) →
        IsCutShort m line mid new.seen → Goes most more old new steps.SinkFailed

  -- the lines of a session and an outside that is lent, by what is seen of both
  abbrev pub GoesOver : {D : Type 0} → (D → Seen) → ℕ → ℕ → D → LentView → D → LentView → Step → Type 0
  GoesOver seen most more session outside session' outside' = Goes most more (place (seen session) outside.seen) (place (seen session') outside'.seen)
