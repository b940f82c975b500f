pub mod Accepted
pub mod Admitted
pub mod Tests
pub mod FirstState
