pub mod Common
pub mod Micro
pub mod Microstep
pub mod Mic2
pub mod Latches
pub mod Spelled
pub mod View
pub mod Prelude
