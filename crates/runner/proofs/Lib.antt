pub mod Handed
pub mod Performing
