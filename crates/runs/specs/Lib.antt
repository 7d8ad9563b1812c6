-- What the inner functions of this crate meet.
pub mod RunEnd
