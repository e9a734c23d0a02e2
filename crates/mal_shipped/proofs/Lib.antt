pub mod Common
mod Texts
mod Placed
mod Valid
mod Entries
mod Lines
mod Words
