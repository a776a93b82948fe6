pub mod PutRow
pub mod FromTheFront
