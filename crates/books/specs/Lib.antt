pub mod Books
pub mod Entry
pub mod Found
