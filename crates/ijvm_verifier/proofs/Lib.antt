pub mod Common
pub mod Swept
pub mod Counts
