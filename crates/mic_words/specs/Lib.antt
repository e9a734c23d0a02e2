pub mod Arithmetic
pub mod Prelude
