-- Laws of what moves the state.
pub mod Laws
