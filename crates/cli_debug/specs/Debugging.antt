-- What the lines of a debugging session mean.
use Rattle.std.specs.Prelude.{◌≡◌, ℕ, List, [], ◌∷◌, Some}
use Rattle.mic_base.specs.Prelude.{plain_left}
use Rattle.mic_base.specs.declared.plain.source.PlainSource.{PlainSource}
use Rattle.mic_clock.specs.Prelude.{Meaning}
use Rattle.mic_debugger.specs.Prelude.{IsBookOf, Does, Rules, Stand, StandsAt, rules_of, SessionView}
use Rattle.cli_outside.specs.Prelude.{LentView}
use Rattle.cli_session.specs.Prelude.{Gone, IsCutShort, Place, SessionMeaning, place}
use Rattle.cli_debug.specs.Stand.{IsBrokenOff, is_quit}

-- a session, and what its input has left
pub record DebuggingView (M : Type 0) : Type 0 where
  pub session : SessionView M
  pub input : List ℕ

abbrev pub debugging_view : {M : Type 0} → SessionView M → List ℕ → DebuggingView M
debugging_view session input = record { session = session; input = input }

abbrev pub debugging : {M State : Type 0} → (M → State) → Meaning State → SessionMeaning (DebuggingView M) Rules (Stand State)
debugging state m =
    record {
      quits = λ d. is_quit d.session.listing.memory;
      GoesBy = λ d rules. IsBookOf d.session.listing rules.book × (rules ≡ rules_of d.session rules.book);
      StandsAt = λ held d s. StandsAt state (Some d.input) held d.session s;
      Lasts = λ n d. Unit {0};
      waiting = λ d. d.session.board.bus.console.kept;
      Does = Does m;
      IsBrokenOff = IsBrokenOff m;
    }

-- a session, its input, and an outside that is lent, as a place
abbrev pub place_at : {M : Type 0} → SessionView M → PlainSource → LentView → Place (DebuggingView M)
place_at session input outside = place (debugging_view session (plain_left input)) outside.seen

module _ {M State : Type 0} (state : M → State) (m : Meaning State) (line : List ℕ) where
  -- the line was done whole, or `out` or `err` failed in it
  abbrev pub HasGone : SessionView M → PlainSource → LentView → SessionView M → PlainSource → LentView → Type 0
  HasGone session input outside session' input' outside' =
      Gone (debugging state m) (line ∷ []) (place_at session input outside) (place_at session' input' outside')

  abbrev pub IsCutInLine : SessionView M → PlainSource → LentView → LentView → Type 0
  IsCutInLine session input old new = IsCutShort (debugging state m) line (place_at session input old) new.seen
