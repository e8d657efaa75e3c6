-- Laws that the proofs of this crate share.
pub mod Bytes
pub mod Blocks
