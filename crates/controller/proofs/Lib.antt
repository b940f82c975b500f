pub mod Demand3
pub mod Turn
pub mod OneTurn
pub mod WaitsFor
pub mod HandedBack
pub mod Answer
pub mod Count
pub mod Checkpoint
