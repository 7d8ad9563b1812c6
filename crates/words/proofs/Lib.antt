-- Laws that the proofs of this crate cite, and the theorem that a loop over lines follows.
pub mod PartLaws
pub mod NameTheorem
pub mod NameLaws
pub mod LineLaws
pub mod InputLaws
pub mod Determined
