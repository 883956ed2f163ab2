-- Words of private contracts.
pub mod Keys
pub mod NameIndex
pub mod Names
pub mod Commons
pub mod Text
pub mod Resolved
pub mod Places
pub mod Fields
pub mod Entries
pub mod Records
