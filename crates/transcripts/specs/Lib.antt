pub mod Promises
pub mod Replies
pub mod Talking
pub mod Transcript
