pub mod Tests
pub mod InParts
pub mod FirstOf
