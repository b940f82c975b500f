pub mod StateParts
pub mod RoundTrip
pub mod Shown
pub mod Below
pub mod Placed
pub mod Tests
pub mod Passed
