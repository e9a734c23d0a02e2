pub mod Naming
pub mod OneReading
pub mod Programs
pub mod Words
