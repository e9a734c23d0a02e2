-- What each number stands for, and the world where a run starts.
use Rattle.std.specs.Prelude.{ℕ}
use Rattle.console_port.specs.World.{World}

pub record Environment : Type 0 where
  pub start : World
  pub word : ℕ → ℕ
