-- Laws that the proofs of this crate cite.
pub mod BlockLaws
pub mod TurnLaws
pub mod PassLaws
pub mod ItemLaws
