pub mod Packing
pub mod Replies
