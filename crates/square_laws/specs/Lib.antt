-- The laws of the square, from its lines to the picture.
pub mod Grid
pub mod Undone
pub mod Sizes
pub mod Near
pub mod Range
pub mod Numbers
pub mod Picture
pub mod Thumbnail
