-- What the contracts of a pass cite.
pub mod Turns
