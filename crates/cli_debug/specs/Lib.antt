pub mod Stand
pub mod Debugging
pub mod Debugged
pub mod Prelude
