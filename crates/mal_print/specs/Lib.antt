pub mod Printed
pub mod StatementText
pub mod Lines
pub mod Prelude
