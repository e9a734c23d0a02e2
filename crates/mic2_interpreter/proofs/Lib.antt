pub mod Common
pub mod Guided
pub mod Boundaries
pub mod Boot
pub mod Instructions
pub mod Ends
pub mod Output
pub mod Store
