-- What the lines of a rewinding session mean.
use Rattle.std.specs.Prelude.{◌≡◌, ◌≢◌, ◌≤◌, ◌+◌, ◌*◌, ◌^◌, ℕ, suc, List, Some}
use Rattle.cli_rewind.specs.Common.{plain_left, PlainSource, Meaning, RewindView, LentView, IsCutShort, SessionMeaning, place}
use Rattle.mic_clock.specs.declared.end.End.TheVariants as ends
use Rattle.cli_rewind.specs.Commands.{is_quit}
use Rattle.cli_rewind.specs.Stand.{Does, IsBrokenOff, Stand, StandsAt}

-- a rewind, the number of its memory words, and what its program's input has left
pub record RewindingView (M : Type 0) : Type 0 where
  pub rewind : RewindView M
  pub memory : ℕ
  pub input : List ℕ

abbrev pub rewinding_view : {M : Type 0} → RewindView M → ℕ → List ℕ → RewindingView M
rewinding_view rewind memory input = record { rewind = rewind; memory = memory; input = input }

-- a session's view, by the input itself
abbrev pub rewinding_at : {M : Type 0} → RewindView M → ℕ → PlainSource → RewindingView M
rewinding_at rewind memory input = rewinding_view rewind memory (plain_left input)

-- the words of the control store, the number of memory words, and the most cycles that are kept
pub record RewindingRules : Type 0 where
  pub words : List ℕ
  pub memory : ℕ
  pub depth : ℕ

abbrev pub rules_of : {M : Type 0} → RewindingView M → RewindingRules
rules_of d = record { words = d.rewind.board.store.words; memory = d.memory; depth = d.rewind.history.depth }

-- the board has come to no fault of `out`, and its counts have room for this many lines, each of fewer than 2^32 cycles
pub record Lasts {M : Type 0} (n : ℕ) (d : RewindingView M) : Type 0 where
  pub cycles : d.rewind.board.counts.cycles + n * 2 ^ 32 ≤ 2 ^ 62
  pub well : d.rewind.board.end ≢ Some ends.WriteFault

-- of the lines that may still be done, one is done
abbrev pub LastsOneLess : {M : Type 0} → ℕ → RewindView M → PlainSource → RewindView M → PlainSource → Type 0
LastsOneLess memory rewind input rewind' input' =
    (n : ℕ) → Lasts (suc n) (rewinding_at rewind memory input) → Lasts n (rewinding_at rewind' memory input')

abbrev pub rewinding : {M State : Type 0} → (M → State) → Meaning State →
    SessionMeaning (RewindingView M) RewindingRules (Stand State)
rewinding state m =
    record {
      quits = λ d. is_quit d.memory;
      GoesBy = λ d rules. rules ≡ rules_of d;
      StandsAt = λ held d s. StandsAt state m (Some d.input) held d.rewind s;
      Lasts = Lasts;
      waiting = λ d. d.rewind.board.bus.console.kept;
      Does = λ rules. Does m rules.words rules.depth rules.memory;
      IsBrokenOff = λ rules. IsBrokenOff m rules.words rules.depth rules.memory;
    }

-- `out` or `err` failed in a line
abbrev pub IsCutInLine : {M State : Type 0} → (M → State) → Meaning State → List ℕ → ℕ → RewindView M → PlainSource → LentView → LentView → Type 0
IsCutInLine state m line memory rewind input old new = IsCutShort (rewinding state m) line (place (rewinding_at rewind memory input) old.seen) new.seen
