pub mod Common
pub mod Promised
pub mod Same
