-- Laws and theorems on the jobs that belong to no one function.
pub mod AnswerLaws
pub mod CutLaws
pub mod OrderLaws
pub mod LevelTheorems
pub mod Determined
