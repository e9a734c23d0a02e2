pub mod Listing
pub mod Loaded
pub mod Shipped
pub mod Prelude
