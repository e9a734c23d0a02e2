pub mod Sweep
pub mod Counted
pub mod Survey
pub mod Prelude
