pub mod Lioness
pub mod Entry
pub mod Steps
