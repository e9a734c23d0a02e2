pub mod Common
pub mod Reasons
pub mod Running
pub mod OneProgram
pub mod TinyReasons
pub mod SoakEnding
