pub mod Read
pub mod Dependent
pub mod Count
pub mod Laws
