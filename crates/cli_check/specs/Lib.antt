pub mod Words
pub mod Usage
pub mod Table
pub mod CheckEnds
pub mod Prelude
