pub mod Common
mod Lined
mod Words
mod Answering
mod Stores
