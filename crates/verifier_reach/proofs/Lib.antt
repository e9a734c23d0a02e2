pub mod Common
pub mod Checking
pub mod Keeping
