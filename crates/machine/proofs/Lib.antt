-- The laws that the answers of this crate cite.
pub mod MachineLaws
