-- The laws that the proofs of the functions share, and what is proved of the definitions.
pub mod Table
pub mod Bytes
pub mod FaultNumbers
pub mod Spans
pub mod Firsts
pub mod Sames
pub mod Ways
pub mod Determined
pub mod Reading
pub mod WellFormed
pub mod Examples
