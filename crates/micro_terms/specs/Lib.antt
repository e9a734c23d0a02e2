pub mod Environment
pub mod Meaning
pub mod Ordered
pub mod Ranges
pub mod Value
pub mod Prelude
