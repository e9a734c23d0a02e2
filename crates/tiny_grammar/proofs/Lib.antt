pub mod Common
pub mod Moving
pub mod Lists
pub mod Ranks
pub mod Beginnings
pub mod Exprs
pub mod Blocks
pub mod Signatures
pub mod Runs
pub mod Texts
pub mod Taken
pub mod Laws
pub mod Unique
mod Examples
