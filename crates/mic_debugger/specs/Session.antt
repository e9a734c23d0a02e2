-- Where a session leads a board, and what it prints.
use Rattle.std.specs.Prelude.{◌≡◌, ◌≢◌, ◌⊎◌, ℕ, ◌+◌, ◌<◌, Bool, List, ◌++◌, Option, Some, Result, OnOk, OnErr, IfOk}
use Rattle.mic_debugger.specs.Common.{HasCause, Rose, KeepsFront, Puts, Counts, End, Meaning, MicroRun, number_of, word_at, turns, BoardView, ShowsRun}
use Rattle.mic_debugger.specs.Common.{IsCutByRead, Got, GotInPart, IsFrontOf, end_line}
use Rattle.mic_clock.specs.declared.end.End.TheVariants as ends
use Rattle.mic_debugger.specs.declared.until.Until.{Until}
use Rattle.mic_debugger.specs.Book.{Book, ByBook, IsBookOf}
use Rattle.mic_debugger.specs.Clocking.{first_piece, second_piece, turn_text, counted_turn, after, printed, passed, IsGoing, IsTold}
use Rattle.mic_debugger.specs.View.{ListingView}

-- a failing source ends a board, and only that raises its count
pub record HasReadCause (before now : ℕ) (end : Option End) : Type 0 where
  pub rose : end ≡ Some ends.ReadFault → Rose before now
  pub same : end ≢ Some ends.ReadFault → now ≡ before

-- what is printed of a turn from one board to the next
abbrev pub text_between : {M State : Type 0} → (M → State) → Meaning State → Book → List ℕ → Until → BoardView M → BoardView M → List ℕ
text_between state m book breaks u board board' =
    turn_text book breaks u (m.registers (state board.machine)).mpc (m.drives (word_at m board.store.words (state board.machine)) (state board.machine)).stalled
    board'.counts (m.registers (state board'.machine)) board'.bus.words board'.end

-- The pieces that are printed of a turn that is waited for, and all that is put of a turn, by the book of a listing.

abbrev pub IsFirstPiece : ListingView → List ℕ → Until → ℕ → Bool → Counts → List ℕ → Type 0
IsFirstPiece listing breaks u mpc stalled c piece = ByBook listing (λ book. piece ≡ first_piece book breaks u mpc stalled c)

abbrev pub IsSecondPiece : {M State : Type 0} → (M → State) → Meaning State → ListingView → List ℕ → Until → BoardView M → List ℕ → Type 0
IsSecondPiece state m listing breaks u board piece = ByBook listing (λ book. piece ≡ second_piece book breaks u (m.registers (state board.machine)))

abbrev pub PutsTurn : {M State E X : Type 0} → (M → State) → Meaning State → (E → Option (List ℕ)) → ListingView → List ℕ → Until →
    ℕ → BoardView M → E → E → Result Unit X → Type 0
PutsTurn state m held listing breaks u mpc board err err' result =
    ByBook listing (λ book.
    Puts (held err) (turn_text book breaks u mpc board.buses.drive.stalled board.counts (m.registers (state board.machine)) board.bus.words board.end)
    result (held err'))

-- A turn from one board to the next is printed: `err` gets its text, or a front of it where it fails, and nothing where a failing
-- `out` ended the board. The result says whether the turn is one that is waited for.
pub record IsPrinted {M State E X : Type 0} (state : M → State) (m : Meaning State) (held : E → Option (List ℕ)) (faults : E → ℕ)
    (listing : ListingView) (breaks : List ℕ) (u : Until) (board board' : BoardView M) (err err' : E) (result : Result Bool X) : Type 0 where
  pub came : IfOk result (λ came. number_of came ≡ counted_turn breaks u board'.counts board'.bus.words board'.end)
  pub unbroken : OnOk result (board'.end ≢ Some ends.WriteFault)
  pub text : OnOk result ((book : Book) → IsBookOf listing book → Got (held err) (text_between state m book breaks u board board') (held err'))
  pub front : OnErr result (board'.end ≢ Some ends.WriteFault → (book : Book) → IsBookOf listing book →
      GotInPart (held err) (text_between state m book breaks u board board') (held err'))
  pub silent : board'.end ≡ Some ends.WriteFault → err' ≡ err
  pub keeps : KeepsFront (held err) (held err')
  pub cause : board'.end ≢ Some ends.WriteFault → HasCause (faults err) (faults err') result

-- what a sink holds is a front of what each run gave that a board showed
abbrev pub HoldsFront : {M State : Type 0} → (M → State) → Option (List ℕ) → BoardView M → Option (List ℕ) → Type 0
HoldsFront {State = State} state held board held' =
    (left : Option (List ℕ)) (r : MicroRun State) → ShowsRun state left held board r → IsFrontOf held' r.world.given

-- A board stands where a run stands. If a failing sink ended the board in its last turn, the board has that end.
pub record StandsAfter {M State : Type 0} (state : M → State) (board : BoardView M) (r : MicroRun State) : Type 0 where
  pub its_state : r.state ≡ state board.machine
  pub memory : r.world.words ≡ board.bus.words
  pub counts : r.counts ≡ board.counts
  pub its_end : (r.end ≡ board.end) ⊎ (board.end ≡ Some ends.WriteFault)

module _ {M State : Type 0} (state : M → State) (m : Meaning State) (book : Book) (words breaks : List ℕ) (bound : ℕ) (u : Until) (times : ℕ) where
  -- A clocking command under way: n turns of the run r were made, which led to this board; `left_over` more are waited for.
  pub record IsUnderway (left held : Option (List ℕ)) (board : BoardView M) (rest text : List ℕ) (left_over n : ℕ) (r : MicroRun State) : Type 0 where
    pub here : ShowsRun state left held board (after m book words breaks bound u n r)
    pub untaken : (after m book words breaks bound u n r).world.untaken ≡ rest
    pub going : IsGoing m book words breaks bound u times n r
    pub count : passed m book words breaks bound u n r + left_over ≡ times
    pub lines : text ≡ printed m book words breaks bound u n r

  -- A failing source stopped it: the run is cut k turns after the n that were made, and the end line is printed.
  pub record IsStopped (left held : Option (List ℕ)) (board : BoardView M) (rest text : List ℕ) (n k : ℕ) (r : MicroRun State) : Type 0 where
    pub cut : IsCutByRead state m words (Some bound) left held board (turns m words (Some bound) k (after m book words breaks bound u n r))
    pub untaken : (turns m words (Some bound) k (after m book words breaks bound u n r)).world.untaken ≡ rest
    pub going : IsGoing m book words breaks bound u times n r
    pub waiting : passed m book words breaks bound u n r < times
    pub lines : text ≡ printed m book words breaks bound u n r ++ end_line ends.ReadFault

  -- A failing sink broke it off at a moment of its way: the turns that were made stay, `out` holds a front of what
  -- was given by then, and `err` got a front of what is printed by then.
  pub record IsBroken (held : Option (List ℕ)) (board : BoardView M) (said said' : Option (List ℕ)) (n : ℕ) (r : MicroRun State) : Type 0 where
    pub here : StandsAfter state board (after m book words breaks bound u n r)
    pub going : IsGoing m book words breaks bound u times n r
    pub out : IsFrontOf held (after m book words breaks bound u n r).world.given
    pub err : GotInPart said (printed m book words breaks bound u n r) said'
    pub told : IsTold m book words breaks bound u said said' n r
