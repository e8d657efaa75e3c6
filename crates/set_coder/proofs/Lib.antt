pub mod Run
pub mod Test
pub mod Numbers
pub mod InOrder
pub mod Set
