pub mod Lines
pub mod Orders
pub mod Promises
pub mod Writing
