pub mod Graph
pub mod Shortcut
pub mod LocalSet
pub mod Trace
pub mod Unset
pub mod Prelude
