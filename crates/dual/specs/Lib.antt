pub mod Marks
pub mod Listings
pub mod Corners
pub mod Plans
pub mod Walls
pub mod Ways
pub mod Forced
pub mod Examples
