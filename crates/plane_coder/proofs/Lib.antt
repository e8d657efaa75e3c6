pub mod Rest
pub mod Plane
pub mod Planes
