-- Laws of models.
pub mod Facts
pub mod Lengths
