-- What the tables are, and how they are read.
pub mod Tables
