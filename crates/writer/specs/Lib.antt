pub mod Writing
pub mod OneForm
pub mod Answers
pub mod Inner
