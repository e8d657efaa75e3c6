pub mod Judging
pub mod Settling
