pub mod Common
mod Bytes
mod Sides
mod Lists
mod Texts
