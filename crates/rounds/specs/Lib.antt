pub mod Rounds
pub mod Ways
pub mod Entered
pub mod Calls
pub mod Promise
