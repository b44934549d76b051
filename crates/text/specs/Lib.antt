-- Document 01, "Path text": the classes of bytes, and the tokens.
pub mod Classes
pub mod Faults
pub mod Tokens
