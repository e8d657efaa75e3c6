-- The laws of lines.
pub mod Sized
pub mod Pairs
pub mod Halves
pub mod Lines
pub mod Near
pub mod FiveThree
