pub mod Tests
pub mod Rows
