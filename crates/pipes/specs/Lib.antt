-- How many bytes came.
pub mod Came
