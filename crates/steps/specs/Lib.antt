-- Document 01, "Sessions": what the calls do, and when they are refused.
pub mod Answers
pub mod Steps
pub mod Refusals
pub mod Calling
-- What the inner functions say.
pub mod Values
-- What is promised of steps and calls.
pub mod Promises
