pub mod Ranges
pub mod Refusals
pub mod Counts
pub mod Numbers
pub mod Growing
pub mod GreyLimit
