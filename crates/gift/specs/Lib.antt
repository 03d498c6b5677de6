pub mod Gift
pub mod Entry
