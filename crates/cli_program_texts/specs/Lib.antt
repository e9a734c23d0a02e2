pub mod Refusals
pub mod Summary
pub mod Listing
pub mod Prelude
