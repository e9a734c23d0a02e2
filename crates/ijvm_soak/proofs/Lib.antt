mod Examples
mod Lengths
mod Notes
