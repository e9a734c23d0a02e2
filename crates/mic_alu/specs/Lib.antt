pub mod Gates
pub mod Slices
pub mod Rounds
pub mod Prelude
