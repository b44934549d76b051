-- What is read into a part of the buffer stands there.
pub mod Pieces
