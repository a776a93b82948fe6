pub mod Answers
pub mod Noting
pub mod Outputs
pub mod Replies
pub mod Sample
