pub mod Calm
pub mod Answers
pub mod Inner
pub mod OfCalm
