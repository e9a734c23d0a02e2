pub mod Status
pub mod Outside
pub mod Messages
pub mod Work
pub mod Ways
pub mod Given
pub mod Prelude
