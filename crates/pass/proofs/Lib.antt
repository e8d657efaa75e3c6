-- The laws of a pass.
pub mod OneLine
pub mod Passes
