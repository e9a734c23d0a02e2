pub mod Signs
pub mod Lexemes
pub mod Spelled
pub mod Prelude
