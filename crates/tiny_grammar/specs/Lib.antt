pub mod Common
pub mod Tokens
pub mod Grammar
pub mod Refusals
pub mod Machine
pub mod Reads
pub mod Parts
pub mod Prelude
