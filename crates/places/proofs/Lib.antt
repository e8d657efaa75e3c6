-- The laws of places.
pub mod Unions
pub mod Moved
pub mod Interleaving
pub mod Round
pub mod Steps
