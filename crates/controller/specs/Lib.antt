pub mod Calls
pub mod Demand3
pub mod OneTurn
pub mod WaitsFor
pub mod Count
pub mod Checkpoint
