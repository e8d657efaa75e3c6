-- What is proved of the exported functions beside their contracts.
pub mod Settled
