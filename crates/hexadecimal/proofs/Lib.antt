pub mod Hexes
pub mod Examples
pub mod Unique
