pub mod Paths
pub mod Facts
pub mod MainCount
pub mod Kinds
pub mod Sound
pub mod Accepted
pub mod Prelude
