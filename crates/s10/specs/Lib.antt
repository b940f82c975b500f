pub mod Text
pub mod Parts
pub mod Refusal
pub mod Outcome
pub mod Laws
