-- Laws that the proofs of this crate cite.
pub mod ResetLaws
pub mod StepLaws
