-- Words of private contracts.
pub mod Commands
pub mod Fetched
pub mod Inputs
pub mod Names
pub mod Reports
