pub mod SealedCard
