pub mod Ready
pub mod Checked
pub mod Prelude
