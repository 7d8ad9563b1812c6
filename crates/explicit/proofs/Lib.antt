-- The laws that the answers of this crate cite, and those of the phase that later crates want.
pub mod ExplicitLaws
pub mod WalkLaws
pub mod Determined
