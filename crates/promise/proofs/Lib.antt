-- Laws of the promise in the picture's header.
pub mod Laws
pub mod Comment
pub mod Told
