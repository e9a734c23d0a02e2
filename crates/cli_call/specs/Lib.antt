pub mod Common
pub mod Usage
pub mod ClockedEnd
pub mod CallEnds
pub mod Agree
pub mod Meant
pub mod Answers
pub mod Prelude
