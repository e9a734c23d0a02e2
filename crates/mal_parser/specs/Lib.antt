pub mod Common
pub mod Program
pub mod ProgramText
pub mod Labels
pub mod Text
pub mod Reading
pub mod Prelude
