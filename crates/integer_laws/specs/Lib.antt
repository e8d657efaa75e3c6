pub mod Difference
pub mod Order
pub mod Machine
