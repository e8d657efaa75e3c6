-- Laws of what was decoded.
pub mod Laws
