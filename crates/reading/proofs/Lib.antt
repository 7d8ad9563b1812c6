pub mod StartLaws
pub mod Determined
