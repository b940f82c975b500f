pub mod Halve
pub mod Operations
pub mod Shift
