-- The contracts are those of `steps` (its specs/Calling.antt), of a line's record and list.
pub mod Held
