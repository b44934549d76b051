-- What is proved of the definitions, and the laws that the proofs of the functions share.
-- Small sets, and the tests of a record.
pub mod Cases
pub mod SmallSets
pub mod Meeting
pub mod Single
pub mod States
pub mod Lengths
pub mod RecordTests
-- Looking through the entries.
pub mod Looking
pub mod Listed
pub mod SoundLists
pub mod Seeking
pub mod EntryLaws
pub mod Determined
