pub mod Common
pub mod Machine
pub mod Kept
pub mod Steps
pub mod Runs
pub mod Plain
pub mod Prelude
