-- Laws that crates above may cite, with their proofs.
pub mod First
pub mod Whole
