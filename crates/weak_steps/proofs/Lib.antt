-- What is read off the tables.
pub mod TableLaws
