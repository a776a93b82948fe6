-- Laws of the three sets.
pub mod Laws
pub mod Shifted
pub mod ReachAttained
pub mod PointByPoint
pub mod Bounds
pub mod Terms
pub mod SupportSoFar
pub mod Facts
pub mod Moved
pub mod OneMore
