-- That two machines agree: run over one image and one input, they end alike with the same output, where neither meets its bound.
use Rattle.std.specs.Prelude.{◌≡◌, ◌≢◌, ℕ, List, Option, Some, IfSome}
use Rattle.ijvm_simulation.specs.Common.{BoardView, VerifiedView}
use Rattle.mic_clock.specs.declared.end.End.TheVariants as clocked
use Rattle.ijvm_simulation.specs.Interpretation.{Interpretation}
use Rattle.ijvm_simulation.specs.Headline.{HasRun}

-- two boards have ended alike, and their sinks hold the same
pub record EndAlike {M N : Type 0} (held held' : Option (List ℕ)) (board : BoardView M) (board' : BoardView N) : Type 0 where
  pub end : board.end ≡ board'.end
  pub instructions : board.counts.instructions ≡ board'.counts.instructions
  pub output : IfSome held (λ h. IfSome held' (λ h'. h ≡ h'))

-- neither has met its bound
abbrev pub MeetNoBound : {M N : Type 0} → BoardView M → BoardView N → Type 0
MeetNoBound board board' = (board.end ≢ Some clocked.Bound) × (board'.end ≢ Some clocked.Bound)

-- runs of one image over one known input, on both machines, end alike, where neither meets its bound
abbrev pub RunsAgree : {M N S T : Type 0} → Interpretation M S → Interpretation N T → Type 0
RunsAgree {M} {N} i j =
    (v : VerifiedView) (bound bound' : ℕ) (input : List ℕ) (before left held left' held' : Option (List ℕ)) (board : BoardView M) (board' : BoardView N) →
    HasRun i.state i.meaning i.IsReady i.IsShipped i.entry i.timing v bound (Some input) before left held board →
    HasRun j.state j.meaning j.IsReady j.IsShipped j.entry j.timing v bound' (Some input) before left' held' board' →
    MeetNoBound board board' → EndAlike held held' board board'
