pub mod Words
pub mod Tokens
pub mod Spelled
pub mod Prelude
