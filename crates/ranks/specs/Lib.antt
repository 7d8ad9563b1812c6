-- What the functions of this crate say.
pub mod Ranks
