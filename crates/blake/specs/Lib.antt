pub mod Blake
pub mod Entry
