pub mod Layout
pub mod Fields
pub mod Head
pub mod Written
pub mod Outcome
