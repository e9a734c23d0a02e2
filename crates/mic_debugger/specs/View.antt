-- What clauses see of a listing and of a session.
use Rattle.std.specs.Prelude.{ℕ, List, Option}
use Rattle.mic_debugger.specs.Common.{ImageView, MalView, BoardView, VerifiedView}

pub record ListingView : Type 0 where
  pub program : MalView
  pub placement : List ℕ
  pub image : ImageView
  -- the number of memory words
  pub memory : ℕ

-- what is listed of a placed program and of an accepted image
abbrev pub listing_of : MalView → List ℕ → VerifiedView → ListingView
listing_of program placement accepted =
    record { program = program; placement = placement; image = accepted.image; memory = accepted.map.stack_end }

pub record SessionView (M : Type 0) : Type 0 where
  pub board : BoardView M
  pub listing : ListingView
  pub bound : ℕ
  pub breaks : List ℕ
  pub watched : Option ℕ
