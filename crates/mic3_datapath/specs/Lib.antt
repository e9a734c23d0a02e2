pub mod Common
pub mod Pipeline
pub mod Cycle
pub mod Mic3
pub mod Slots
pub mod View
pub mod Prelude
