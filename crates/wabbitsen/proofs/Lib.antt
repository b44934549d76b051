-- What is promised (specs/Promises.antt).
pub mod Holding
pub mod Refusing
pub mod Determined
