pub mod Common
pub mod Frames
pub mod Step
pub mod Cost
pub mod Run
pub mod Safe
pub mod Limited
pub mod Prelude
