pub mod Batch
pub mod Next
pub mod Steps
pub mod Demands
