-- What the passes of this crate meet.
pub mod Passes
