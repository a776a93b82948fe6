pub mod SpareFigure
pub mod Recurrence
pub mod Working
pub mod Beyond
pub mod Stands
pub mod Numbers
pub mod SteppedSum
