pub mod Cuts
pub mod Trip
pub mod Bounds
pub mod Differ
pub mod Examples
