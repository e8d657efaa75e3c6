-- The title of what decode says.
pub mod Title
