pub mod Stands
pub mod Stalls
pub mod Interpretation
pub mod Prelude
