pub mod Sounds
pub mod Reaches
pub mod Rows
