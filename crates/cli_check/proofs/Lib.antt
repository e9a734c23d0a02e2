pub mod Common
pub mod Seconds
pub mod Rows
pub mod Asking
