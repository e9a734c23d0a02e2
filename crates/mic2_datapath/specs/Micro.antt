-- The state of Mic-2 between cycles (chapter 4): its registers, what is under way to them, and its fetch unit.
use Rattle.std.specs.Prelude.{ℕ, Bool, Option}
use Rattle.mic2_fetch_unit.specs.Prelude.{Prefetch}

pub record Micro : Type 0 where
  pub mar : ℕ
  pub mdr : ℕ
  pub pc : ℕ
  pub sp : ℕ
  pub lv : ℕ
  pub cpp : ℕ
  pub tos : ℕ
  pub opc : ℕ
  pub h : ℕ
  pub mpc : ℕ
  -- the memory word that the next edge loads into MDR
  pub word : Option ℕ
  pub unit : Prefetch
  -- whether the cycle before went to an instruction's first word
  pub begins : Bool
