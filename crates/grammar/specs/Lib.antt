-- Document 01, "Path text" and "Numbers of refusal" 1 to 7: the grammar, its limits, and what is refused where.
pub mod Symbols
pub mod Grammar
pub mod Refusals
pub mod Promises
-- What the compiler's readers follow: nothing to be believed, for Promises.antt ties it to the rest.
pub mod Machine
