-- Laws of the parts of a file.
pub mod Counts
pub mod Lengths
