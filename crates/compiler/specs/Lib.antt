-- The compiler's contract, what is promised beside it, and the samples.
pub mod Compiling
pub mod Promises
pub mod Samples
-- What only private contracts and proofs cite: nothing to be believed.
pub mod Reading
pub mod Computed
