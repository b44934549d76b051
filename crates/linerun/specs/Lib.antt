-- What the program writes.
pub mod Running
