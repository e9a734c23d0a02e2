pub mod Bytes
pub mod Adds
pub mod Adding
pub mod Layout
pub mod Parts
pub mod Prelude
