pub mod Arrays
pub mod Items
pub mod Memory
pub mod Worker
