-- What a run and the reading job give, of a written record and of a damaged one, and what the first edition's reader gives besides.
pub mod FirstEdition
pub mod Ended
pub mod ReadBack
pub mod BothJobs
pub mod Damaged
pub mod ReadDamaged
