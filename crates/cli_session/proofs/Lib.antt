pub mod LineLemmas
pub mod Going
pub mod Finding
