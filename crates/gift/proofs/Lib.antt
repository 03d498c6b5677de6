-- Laws of GIFT-128.
pub mod Steps
pub mod Inverse
pub mod Keys
pub mod Entry
pub mod Unique
