pub mod Common
pub mod Examples
pub mod Bits
pub mod Transfers
pub mod Steps
