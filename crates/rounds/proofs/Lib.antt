pub mod Promise
pub mod Ways
pub mod Entered
pub mod Numbering
pub mod Calls
pub mod Bounds
