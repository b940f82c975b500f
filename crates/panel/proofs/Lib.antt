pub mod Reporting
pub mod Showing
pub mod Counts
pub mod Entries
