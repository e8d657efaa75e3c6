-- From lists in equal parts to what the reading job gives of a written record, and of a damaged one.
pub mod Kept
pub mod Turn
pub mod FirstEdition
pub mod Ended
pub mod Packing
pub mod Counts
pub mod Written
pub mod ReadBack
pub mod BothJobs
pub mod Damaged
pub mod ReadDamaged
