pub mod Generated
pub mod Prelude
