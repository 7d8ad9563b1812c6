mod TextLaws
pub mod LengthLaws
mod PrintLaws
pub mod OutputTheorems
pub mod Determined
