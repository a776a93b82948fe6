pub mod Report
pub mod FarLevels
pub mod OneLower
pub mod CalmSlacks
