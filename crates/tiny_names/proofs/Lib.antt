pub mod Common
pub mod Firsts
pub mod ResolvedLists
pub mod Wholes
