-- Laws of the texts and of putting them.
pub mod TextLaws
mod NumberLaws
mod EachLaws
pub mod SizeLaws
pub mod Determined
