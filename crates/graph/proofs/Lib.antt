pub mod Bridge
pub mod Commands
pub mod Loading
pub mod Steps
pub mod Writing
