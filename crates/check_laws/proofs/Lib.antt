-- From the prime under both sums to what the check catches: what rests on the laws and on the words of specs/.
pub mod Prime
pub mod Same
pub mod Caught
