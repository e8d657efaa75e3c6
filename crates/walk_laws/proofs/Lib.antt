pub mod Bound
pub mod Decoded
pub mod Place
pub mod Undecided
pub mod Unfinished
pub mod Softer
pub mod Finished
