-- The header of a binary PGM, and a few headers read.
pub mod Ascii
pub mod Header
pub mod Cases
