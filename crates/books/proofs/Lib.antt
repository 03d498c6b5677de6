pub mod Searching
pub mod Finding
pub mod Handed
pub mod Entries
pub mod Examples
pub mod Unique
