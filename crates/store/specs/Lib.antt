pub mod Lists
pub mod Find
