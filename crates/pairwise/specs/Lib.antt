-- What the order of a line has to be, said of positions and levels alone.
pub mod Demand3
