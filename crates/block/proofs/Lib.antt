-- Laws of a block: how its parts come into place, and that a block that was made reads back and passes.
pub mod Editions
pub mod Blocks
pub mod Copies
