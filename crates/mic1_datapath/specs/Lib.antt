pub mod Common
pub mod Micro
pub mod Microstep
pub mod Mic1
pub mod Latches
pub mod Cycle
pub mod View
pub mod Prelude
