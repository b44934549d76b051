-- A whole input's transcript is written.
mod Whole
