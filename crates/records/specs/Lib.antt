pub mod Places
pub mod Kinds
pub mod Records
pub mod Order
pub mod Inner
