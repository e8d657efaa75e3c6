-- Laws that the proofs of this crate share.
pub mod RefusalRows
pub mod Writing
pub mod Reading
