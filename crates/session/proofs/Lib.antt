-- What the loops of the list functions keep, and what the contracts say.
pub mod Looking
pub mod TakingOut
pub mod Blanking
pub mod Determined
