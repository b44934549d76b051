-- The laws that the proofs of the functions share, and what is proved of the definitions.
-- Loops over rows, operations and names.
pub mod Links
pub mod Unions
pub mod PositionSets
pub mod Permissions
pub mod Repeats
pub mod Taking
pub mod Spellings
pub mod Finding
pub mod Whole
-- Soundness, clause by clause.
pub mod Passing
pub mod InUse
pub mod Shifting
pub mod SoundSets
pub mod Placed
pub mod SoundOperations
pub mod Distinct
pub mod FreshNames
pub mod SoundNames
pub mod SoundTests
pub mod Determined
-- What a sound table's names say.
pub mod OperationNames
-- The table of an expression: the promises of specs/Promises.antt, lowest first.
pub mod Padding
pub mod Spelled
pub mod NameNumbers
pub mod Limits
pub mod TableCells
pub mod TablePermits
pub mod MarkSays
pub mod TableSound
