pub mod Pack
pub mod Reader
pub mod Demands
pub mod Stretch
