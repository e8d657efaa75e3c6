pub mod Table
pub mod Journey
