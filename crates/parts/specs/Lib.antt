-- Parts of a path: what each function does to them.
pub mod Parts
-- What the parts of an expression come to: for the readers' private contracts, nothing to be believed.
pub mod Progress
