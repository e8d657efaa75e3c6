-- Laws of a line and of a number in decimal.
pub mod Laws
pub mod Decimal
