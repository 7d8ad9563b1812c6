-- What gathering leaves.
pub mod LaidOut
