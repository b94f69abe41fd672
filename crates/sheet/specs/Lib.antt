pub mod Boards
pub mod Calls
pub mod Laws
pub mod Reads
pub mod Sheets
pub mod Sound
pub mod Tables
pub mod Words
