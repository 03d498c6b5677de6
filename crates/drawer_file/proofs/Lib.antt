pub mod Keeping
pub mod Unique
