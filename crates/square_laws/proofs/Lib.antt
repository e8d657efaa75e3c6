-- The laws that rest on how an error grows.
pub mod Near
pub mod Range
pub mod Picture
pub mod Thumbnail
