pub mod Instructions
pub mod Halves
pub mod Text
pub mod Jumps
pub mod Prelude
