pub mod Tree
pub mod View
pub mod Branches
pub mod Prelude
