pub mod Orders
pub mod Values
