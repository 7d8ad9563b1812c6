-- Laws that every crate above cites.
pub mod Determined
pub mod Tests
pub mod Lists
pub mod Any
pub mod Passes
pub mod Filling
pub mod Settling
pub mod Every
pub mod SumLaws
pub mod Placing
pub mod Sinking
pub mod Upward
pub mod Tables
