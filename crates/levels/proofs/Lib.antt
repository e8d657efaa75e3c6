-- The laws of levels in lent memory.
pub mod Quarters
