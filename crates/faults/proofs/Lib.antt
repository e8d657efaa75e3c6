-- Laws of what is said of a block.
pub mod Laws
pub mod Turn
pub mod Told
pub mod Room
