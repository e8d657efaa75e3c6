-- The laws of the two jobs.
pub mod Refusals
pub mod Fits
