pub mod Tests
pub mod Elements
pub mod Parts
pub mod Rest
pub mod Zeros
pub mod Laws
pub mod Progress
pub mod Count
