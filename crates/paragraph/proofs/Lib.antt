pub mod BaseLaws
pub mod Determined
