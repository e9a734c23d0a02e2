pub mod Signs
pub mod Tokens
pub mod Spelled
pub mod Prelude
