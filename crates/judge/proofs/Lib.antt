pub mod Answers
pub mod Positions
pub mod Ends
pub mod MarkedCases
