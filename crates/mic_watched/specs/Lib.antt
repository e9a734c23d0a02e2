pub mod Cycles
pub mod Watched
pub mod Prelude
