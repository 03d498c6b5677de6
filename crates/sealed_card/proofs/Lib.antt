pub mod SealedCards
pub mod Unique
pub mod Trip
