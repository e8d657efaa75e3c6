-- That what decode says is settled by its contract, and that all of it is said.
pub mod Told
pub mod Room
