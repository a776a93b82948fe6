-- Laws of the sweep.
pub mod SweepLoop
pub mod Answers
