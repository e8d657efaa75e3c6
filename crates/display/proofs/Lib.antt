-- The laws of the job.
pub mod Refusals
pub mod Softened
