pub mod Intervals
pub mod Rows
pub mod Grids
