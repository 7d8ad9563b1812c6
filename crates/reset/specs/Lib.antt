-- What a step of the walk says.
pub mod Steps
