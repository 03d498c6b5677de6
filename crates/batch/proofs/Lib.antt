pub mod Steps
pub mod Entry
pub mod Cards
pub mod Demands
pub mod Examples
pub mod Unique
