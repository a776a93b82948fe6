pub mod Limits
pub mod Recurrence
pub mod Refusals
pub mod Inner
