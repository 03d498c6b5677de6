pub mod Entry
pub mod Demands
pub mod Source
