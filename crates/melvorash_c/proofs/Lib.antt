-- Laws on the boundary that belong to no one function.
pub mod BoundaryLaws
pub mod Determined
