-- The state of Mic-3 between cycles (chapter 4): that of Mic-2, and the latches of its operand buses and of its C
-- bus, each with the statement that filled them.
use Rattle.std.specs.Prelude.{ℕ, Option}
use Rattle.micro_word.specs.declared.statement.Placed.{Placed}
use Rattle.mic2_datapath.specs.Prelude.{Micro}

-- a statement that was issued, the words on its sides A and B, and the byte that it dispatches to, if it does
pub record Issued : Type 0 where
  pub statement : Placed
  pub a : ℕ
  pub b : ℕ
  pub byte : ℕ

-- a statement that has computed, its shifted result and its byte; a branch has tested its result by then
pub record Computed : Type 0 where
  pub statement : Placed
  pub value : ℕ
  pub byte : ℕ

pub record Pipeline : Type 0 where
  pub micro : Micro
  -- the operand slot and the result slot
  pub operand : Option Issued
  pub result : Option Computed
