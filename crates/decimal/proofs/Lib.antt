pub mod Decimals
pub mod Examples
pub mod Unique
