-- What the writer's heading says of a record's origin.
pub mod Origins
