pub mod Common
pub mod Buses
pub mod Demands
pub mod Sources
pub mod Steps
pub mod Tried
