pub mod AsMeant
pub mod Growing
pub mod Performs
pub mod Prelude
