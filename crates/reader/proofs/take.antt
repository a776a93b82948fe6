pub mod RowTaken
