-- The state of Mic-1 between cycles (chapter 4): its registers, and what is under way to them.
use Rattle.std.specs.Prelude.{ℕ, Bool, Option}

pub record Micro : Type 0 where
  pub mar : ℕ
  pub mdr : ℕ
  pub pc : ℕ
  pub sp : ℕ
  pub lv : ℕ
  pub cpp : ℕ
  pub tos : ℕ
  pub opc : ℕ
  pub h : ℕ
  pub mbr : ℕ
  pub mpc : ℕ
  -- the memory word that the next edge loads into MDR
  pub word : Option ℕ
  -- the byte that the next edge loads into MBR
  pub byte : Option ℕ
  -- the address of Main1, where instructions begin; no microstep changes it
  pub entry : ℕ
  -- whether a cycle was clocked since the reset
  pub clocked : Bool
