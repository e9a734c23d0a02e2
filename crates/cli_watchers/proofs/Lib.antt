pub mod Common
pub mod Placed
pub mod RowNames
pub mod Ordered
pub mod Listed
pub mod Printed
pub mod Counting
pub mod Caching
