-- What the contracts of this crate say of results and lent memory.
pub mod Items
pub mod Ordered
