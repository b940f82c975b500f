pub mod Numbers
pub mod Boundary
pub mod Demand3
pub mod Dispatching
pub mod Rounds
pub mod Lent
