pub mod Sign
pub mod Reached
