pub mod Common
pub mod Standing
pub mod Ending
pub mod Breaking
