pub mod ChaCha
pub mod Entry
pub mod Bursts
