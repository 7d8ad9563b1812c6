-- Laws that the proofs of this crate cite, and theorems on the drawing order: AlikeLaws and FlagLaws.
pub mod KeepsLaws
pub mod StepLaws
pub mod RankLaws
pub mod TextLaws
pub mod LimitLaws
pub mod DrawLaws
pub mod JobLaws
pub mod Determined
pub mod AlikeLaws
pub mod FlagLaws
