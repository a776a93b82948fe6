pub mod Laws
pub mod Totals
pub mod Answers
