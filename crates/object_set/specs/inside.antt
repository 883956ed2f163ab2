-- Words of private contracts.
pub mod Cursor
pub mod Left
pub mod Records
pub mod Rows
pub mod Sorts
