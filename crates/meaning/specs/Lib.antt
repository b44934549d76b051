-- What a reader must believe, in the order of document 01; Promises.antt and LinePromises.antt say what is proved of it.
pub mod Names
pub mod Words
pub mod Sets
pub mod Positions
pub mod Operations
pub mod Following
pub mod Rewriting
pub mod Waiting
pub mod Calls
pub mod Line
pub mod Heard
pub mod Demand
pub mod Promises
pub mod LinePromises
