-- Document 01, "The table": its cells, the table of an expression, following it, its mark, its soundness.
pub mod Cells
pub mod Rules
pub mod Following
pub mod Marks
pub mod Soundness
pub mod Promises
-- What contracts of building and testing cite: Linking is exact for `set_of` and `link`, Tests serves private functions only.
pub mod Linking
pub mod Tests
