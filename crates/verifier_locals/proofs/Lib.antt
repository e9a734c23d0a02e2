pub mod Common
pub mod Graphs
pub mod Traces
pub mod Shortcuts
pub mod Unsets
