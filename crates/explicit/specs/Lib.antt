-- What the walks promise.
pub mod Promises
