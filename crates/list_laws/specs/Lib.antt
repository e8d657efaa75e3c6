-- Laws of lists: a law that speaks of no picture, no bit and no block stands here.
pub mod Made
pub mod Over
pub mod Joined
pub mod Parts
pub mod Mapped
