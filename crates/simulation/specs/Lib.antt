-- Calls of the built line one after the other, what is heard of them, and the ideal line beside it; Promises.antt and Texts.antt say what
-- is proved of it.
pub mod Runs
pub mod Hearing
pub mod Likeness
pub mod Promises
pub mod Texts
