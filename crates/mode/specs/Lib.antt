pub mod Hyena
pub mod Demands
