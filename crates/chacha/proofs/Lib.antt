pub mod Rounds
pub mod Streams
pub mod Calls
pub mod Examples
pub mod Unique
