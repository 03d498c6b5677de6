pub mod Inverse
pub mod Steps
pub mod Undone
pub mod Unique
