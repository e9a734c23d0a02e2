pub mod Common
pub mod Turns
pub mod Shown
pub mod Saying
