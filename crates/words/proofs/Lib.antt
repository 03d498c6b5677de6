-- The general laws: each is stated once, here, and cited by the crates above.
pub mod ExclusiveOr
pub mod Sums
pub mod Rotation
pub mod Tests
pub mod Iterate
pub mod Lists
pub mod Bytes
pub mod Plus
pub mod Over
pub mod Words
pub mod Blocks
pub mod Comparison
pub mod Fields
pub mod WordLists
pub mod Squares
pub mod Search
pub mod Unique
