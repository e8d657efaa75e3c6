pub mod Tapes
pub mod Run
pub mod Sign
pub mod Test
pub mod Numbers
pub mod InOrder
pub mod Set
