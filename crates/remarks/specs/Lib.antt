-- What the programs remark, and a few lines of it.
pub mod Said
pub mod Cases
