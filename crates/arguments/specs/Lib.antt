-- What a person gave a program on its command line.
pub mod Words
