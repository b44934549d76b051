-- What C and Rust are told: the contracts of the exported functions, and what is promised of records and calls.
pub mod Exporting
pub mod Promises
