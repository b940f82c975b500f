pub mod Text
pub mod Program
pub mod Wrote
pub mod Reached
pub mod Cases
