pub mod Common
pub mod Shapes
pub mod Lexing
pub mod Walking
pub mod Cutting
pub mod Comments
pub mod Texts
mod Adding
