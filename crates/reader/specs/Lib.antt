-- How a run ended, as a number.
pub mod Answers
