-- Laws of what enters at a move.
pub mod Laws
