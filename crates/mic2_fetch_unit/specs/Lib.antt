pub mod FetchUnit
pub mod Place
pub mod Packed
pub mod Units
pub mod Held
pub mod QueueLaw
pub mod Prelude
