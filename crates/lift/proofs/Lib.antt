-- The laws of the steps.
pub mod Floor
pub mod Steps
pub mod Near
