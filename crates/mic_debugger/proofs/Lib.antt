pub mod Common
pub mod Starting
pub mod Placing
pub mod Underway
pub mod Carrying
pub mod InputCauses
pub mod Breaking
