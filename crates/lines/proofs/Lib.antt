-- What the contracts say.
pub mod Determined
