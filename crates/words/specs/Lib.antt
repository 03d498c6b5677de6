-- The definitions that all contracts share.
pub mod Iterate
pub mod Square
pub mod Digits
pub mod Bytes
pub mod Block
pub mod Words
pub mod Search
pub mod Lent
