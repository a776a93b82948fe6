pub mod Values
pub mod Fitting
pub mod FittedLaws
pub mod ZeroBits
pub mod RowLaws
pub mod RowSoFar
pub mod WorkedEntries
