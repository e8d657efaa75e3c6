-- What is said of a block that is not kept.
pub mod Faults
