pub mod Figures
pub mod Replying
pub mod Unpacking
