-- What decode says, and a few lines of it.
pub mod Verdict
pub mod Cases
