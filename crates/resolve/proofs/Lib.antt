pub mod ScatterLaws
pub mod WholeLaws
pub mod BoundLaws
pub mod PlainLaws
