pub mod Steps
pub mod Sequence
pub mod Examples
pub mod Unique
