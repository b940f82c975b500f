pub mod Bits
pub mod Below
pub mod Words
pub mod Laws
pub mod Within
pub mod Places
