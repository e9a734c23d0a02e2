pub mod Common
mod Scenes
mod Straight
mod Statements
mod Spelled
mod Units
mod Examples
