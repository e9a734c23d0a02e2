pub mod Common
pub mod DigitLemmas
pub mod NameLemmas
pub mod NumberLemmas
pub mod FileLemmas
pub mod ReadLemmas
