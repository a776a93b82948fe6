pub mod Putting
pub mod Decimals
pub mod Each
pub mod Outputs
