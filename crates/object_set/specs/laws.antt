-- Laws that crates above may cite, with their proofs.
pub mod Fit
pub mod Rows
pub mod Walks
