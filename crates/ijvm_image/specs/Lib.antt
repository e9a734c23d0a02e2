pub mod Image
pub mod ImageFile
pub mod Reading
pub mod Header
pub mod Prelude
