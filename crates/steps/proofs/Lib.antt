-- What is proved of the definitions, and the laws that the proofs of the functions share.
-- The calls by value do what the contracts say.
pub mod Pigeonhole
pub mod RowNumbers
pub mod Verdicts
pub mod OpenServed
pub mod AskServed
pub mod FinishServed
pub mod WithdrawServed
-- Sound in, sound out.
pub mod RecordKeeps
pub mod ListKeeps
pub mod StepsKeep
pub mod CoresKeep
pub mod TableStable
pub mod CallCases
pub mod CallsKeep
-- What is left of the list.
pub mod ListChanges
pub mod CallsLeave
pub mod CallsBlank
-- One outcome.
pub mod RefusalNumbers
pub mod CallsDetermined
pub mod Determined
