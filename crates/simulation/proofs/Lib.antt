-- Proofs of what specs/Promises.antt and specs/Texts.antt promise, lowest first.
pub mod Histories
pub mod EntriesHeard
pub mod Leaving
pub mod Answering
pub mod CallsAlike
pub mod RunsAlike
pub mod RunsMade
pub mod TablesDemand
pub mod TextsDemand
pub mod ReportPair
