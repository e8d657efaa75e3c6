-- The notions that the contracts of lines cite.
pub mod Each
pub mod Rule
