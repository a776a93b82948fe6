pub mod KnownKinds
pub mod RecordAt
