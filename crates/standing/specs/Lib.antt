-- Document 01, "Sessions": the waiting list, and when a record and a list are sound.
pub mod Lists
pub mod Soundness
pub mod Promises
-- What the inner functions say.
pub mod Searching
