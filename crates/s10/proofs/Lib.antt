pub mod Decimal
pub mod Values
pub mod Weighted
pub mod Fault
pub mod WellFormed
pub mod TextOf
pub mod KeyOf
pub mod Laws
