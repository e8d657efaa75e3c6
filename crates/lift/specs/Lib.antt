-- The notions that the steps' contracts and laws cite.
pub mod Limit
pub mod Off
