-- What a closure that a function of this crate is lent computes.
pub mod Computes
