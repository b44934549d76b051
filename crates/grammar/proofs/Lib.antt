-- Proofs of what specs/Promises.antt promises, lowest first.
pub mod Items
pub mod Runs
pub mod Derived
pub mod Behind
pub mod Completed
pub mod Counts
pub mod Limits
pub mod Deciding
pub mod Unrefusals
pub mod Through
pub mod Sound
pub mod Judging
pub mod Naming
