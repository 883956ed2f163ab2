-- Laws that crates above may cite, with their proofs.
pub mod Entries
pub mod Reach
pub mod Rewritten
pub mod Slots
