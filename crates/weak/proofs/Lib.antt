-- What holds of the weak rules.
pub mod WeakLaws
pub mod EarlyLaws
pub mod LateLaws
pub mod TouchedLaws
