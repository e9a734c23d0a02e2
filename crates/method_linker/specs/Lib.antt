pub mod Linked
pub mod Steps
pub mod Prelude
