-- What is proved of parts, lowest first.
pub mod Laws
pub mod SpelledMore
pub mod NameParts
pub mod RowsAfter
pub mod Completed
pub mod PlacePaths
pub mod Determined
