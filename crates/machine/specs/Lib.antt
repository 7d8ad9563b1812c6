-- What the struct and the enum stand for in the rules' own words, and what the inner functions meet.
pub mod Asked
pub mod Fields
pub mod Meaning
pub mod Sound
pub mod Steps
