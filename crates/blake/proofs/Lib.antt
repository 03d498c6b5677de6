pub mod Mixing
pub mod Hashing
pub mod Examples
pub mod Unique
