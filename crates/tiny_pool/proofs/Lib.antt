pub mod Common
mod Once
mod Walks
mod Pools
