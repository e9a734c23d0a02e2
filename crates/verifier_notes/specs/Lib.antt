pub mod Common
pub mod Noted
pub mod Listed
pub mod Seams
pub mod Scenes
pub mod Meeting
pub mod Parts
pub mod Prelude
