pub mod Common
pub mod Jams
pub mod Slots
pub mod Sides
pub mod Consoles
pub mod Waiting
