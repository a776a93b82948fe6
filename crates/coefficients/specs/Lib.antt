pub mod Binary64
pub mod Entries
pub mod Rows
pub mod Cases
pub mod Inner
