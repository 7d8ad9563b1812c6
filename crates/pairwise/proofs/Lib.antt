-- Demand 3 proved, `demand3` of Theorem, and that it leaves one order only, `only_order` of Settled.
pub mod Count
pub mod Stretches
pub mod Sides
pub mod Least
pub mod Pairs
pub mod Places
pub mod Parts
pub mod LineItems
pub mod Theorem
pub mod Settled
pub mod Lines
