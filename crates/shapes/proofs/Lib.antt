pub mod Cuts
pub mod Walks
