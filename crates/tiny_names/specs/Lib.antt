pub mod Names
pub mod Faults
pub mod FirstFaults
pub mod Resolved
pub mod ResolvedParts
pub mod Unresolved
pub mod View
pub mod Prelude
