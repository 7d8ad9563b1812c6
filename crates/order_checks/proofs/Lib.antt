pub mod LevelLaws
pub mod EndLaws
