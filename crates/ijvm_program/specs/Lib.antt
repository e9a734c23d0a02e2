pub mod Unit
pub mod Layout
pub mod Program
pub mod Prelude
