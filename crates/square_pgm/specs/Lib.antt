-- Square pictures of side 2 ^ k as PGM.
pub mod Sides
pub mod Text
