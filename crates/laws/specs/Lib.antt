-- The words that definitions and contracts are written in. None of them knows a rule.
pub mod Choice
pub mod Parts
pub mod Stretches
pub mod Any
pub mod Sorting
pub mod Tables
pub mod Sums
