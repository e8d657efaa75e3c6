-- What was decoded, and what it is worth.
pub mod Worth
