pub mod Common
pub mod Places
pub mod Pools
pub mod Pushed
pub mod Examples
