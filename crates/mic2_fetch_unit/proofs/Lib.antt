pub mod Common
pub mod Packed
pub mod Units
mod Folded
mod Held
mod Places
