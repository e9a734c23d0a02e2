-- What a session shows of its board where nothing is clocked.
use Rattle.std.specs.Prelude.{ℕ, List, ◌++◌, Option, Result, codes}
use Rattle.mic_debugger.specs.Common.{Puts, Registers, Meaning, state_line, BoardView}
use Rattle.mic_debugger.specs.declared.plan.Shown.{Shown}
use Rattle.mic_debugger.specs.Book.{ByBook}
use Rattle.mic_debugger.specs.Lines.{stack_text}
use Rattle.mic_debugger.specs.Plans.{shown_text}
use Rattle.mic_debugger.specs.View.{SessionView}

module _ {M State : Type 0} (state : M → State) (m : Meaning State) where
  abbrev pub registers_on : BoardView M → Registers
  registers_on board = m.registers (state board.machine)

  abbrev pub registers_text : BoardView M → List ℕ
  registers_text board = state_line (registers_on board) ++ codes "\n"

  -- the memory words from LV up to SP
  abbrev pub stack_of : SessionView M → List ℕ
  stack_of v = stack_text v.board.bus.words v.listing.memory (registers_on v.board).lv (registers_on v.board).sp

  -- what is asked for is put
  abbrev pub PutsShown : {E X : Type 0} → (E → Option (List ℕ)) → SessionView M → E → E → Result Unit X → Shown → Type 0
  PutsShown held v err err' result shown =
      ByBook v.listing (λ book.
      Puts (held err) (shown_text book v.listing.memory (registers_on v.board) v.board.counts v.board.bus.words shown) result (held err'))
