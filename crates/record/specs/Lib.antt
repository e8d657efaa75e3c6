-- What writing and reading answer, by case.
pub mod Answers
