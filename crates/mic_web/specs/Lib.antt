pub mod Called
pub mod Given
pub mod Seen
pub mod Written
pub mod Prelude
