pub mod OneBit
pub mod Worth
pub mod Written
pub mod Packing
