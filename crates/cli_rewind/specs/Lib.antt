pub mod Common
pub mod Commands
pub mod Lines
pub mod Stand
pub mod Moves
pub mod Rewinding
pub mod Rewound
pub mod Prelude
