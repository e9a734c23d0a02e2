pub mod Accesses
pub mod Lines
pub mod Tally
pub mod View
pub mod Prelude
