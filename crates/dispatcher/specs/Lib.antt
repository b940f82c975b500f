pub mod Calls
pub mod OverCalls
