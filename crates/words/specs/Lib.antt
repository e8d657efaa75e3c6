-- A line of text.
pub mod Line
