-- The paper's sections, in the paper's order; then what was checked by hand.
pub mod Sizes
pub mod Lists
pub mod Line
pub mod Places
pub mod Square
pub mod Walk
pub mod Softer
pub mod Bits
pub mod Block
pub mod Record
pub mod Jobs
pub mod First
pub mod Cases
pub mod Worse
