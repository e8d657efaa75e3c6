-- What the contracts of levels cite.
pub mod Level
