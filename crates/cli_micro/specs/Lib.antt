pub mod Common
pub mod Reasons
pub mod Texts
pub mod Answers
pub mod Refused
pub mod Prelude
