pub mod Stands
pub mod Interpretation
pub mod Prelude
