pub mod Drawer
pub mod Drawn
pub mod Sequence
