pub mod Seen
pub mod Numbers
pub mod Places
pub mod Prelude
