-- The promise, and a few of them.
pub mod Promise
pub mod Cases
