pub mod Steps
pub mod Entry
pub mod Demands
pub mod Unique
