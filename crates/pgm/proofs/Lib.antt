-- Laws of the header's definitions.
pub mod Steps
