pub mod Lengths
pub mod Fold
pub mod Unique
