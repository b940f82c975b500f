pub mod Bound
pub mod Answer
pub mod OverCalls
