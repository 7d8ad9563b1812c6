-- The printing program's input, and what reading it leaves.
pub mod Words
pub mod Read
