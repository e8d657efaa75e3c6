-- What the desk's programs do with the bytes they are given, and what their answers are in its numbers.
pub mod Desk
pub mod Answers
