pub mod Common
pub mod Reporting
pub mod Micros
pub mod Ending
pub mod Clocked
pub mod Caching
pub mod Watching
