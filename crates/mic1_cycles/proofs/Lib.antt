pub mod Common
pub mod Accesses
pub mod Cycles
pub mod Loads
pub mod ReadAccesses
pub mod Refusals
pub mod Settled
pub mod Trails
