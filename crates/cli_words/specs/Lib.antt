pub mod Reading
pub mod Given
pub mod Spelled
pub mod Table
pub mod Taking
pub mod Words
pub mod Prelude
