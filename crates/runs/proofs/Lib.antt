-- What holds of runs and of resolving them in turn.
pub mod RunLaws
pub mod KeptLaws
