-- Laws of walks.
pub mod StoredDirection
pub mod Held
pub mod Terms
