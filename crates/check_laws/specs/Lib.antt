-- From the prime under both sums to what the check catches.
pub mod Prime
pub mod Sums
pub mod Damage
pub mod Caught
