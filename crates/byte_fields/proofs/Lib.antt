pub mod Bytes
pub mod Fill
pub mod Library
pub mod Paste
