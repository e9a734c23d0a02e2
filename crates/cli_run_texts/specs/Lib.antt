pub mod Ends
pub mod Report
pub mod Prelude
