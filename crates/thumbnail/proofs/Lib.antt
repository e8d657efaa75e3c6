-- The laws of the job.
pub mod Refusals
