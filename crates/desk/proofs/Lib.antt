-- Laws of the desk's programs.
pub mod Jobs
pub mod Held
pub mod Journey
pub mod Settled
