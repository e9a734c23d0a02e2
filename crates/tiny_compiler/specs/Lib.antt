pub mod Common
pub mod Image
pub mod Compiled
pub mod Prelude
