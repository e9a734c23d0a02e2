pub mod Common
pub mod Naming
pub mod Listing
pub mod Stating
pub mod Forming
pub mod Ranging
pub mod Lining
