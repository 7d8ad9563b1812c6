-- What holds of the neutral rules and of the implicit levels.
pub mod NeutralLaws
pub mod ImplicitLaws
pub mod SpreadLaws
pub mod StretchLaws
