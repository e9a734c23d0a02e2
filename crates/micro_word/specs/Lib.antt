pub mod Operation
pub mod Destinations
pub mod Layout
pub mod Coding
pub mod Words
pub mod Lines
pub mod ControlStore
pub mod Prelude
