-- What crates above may cite, with its proofs.
pub mod Pairs
pub mod Reach
pub mod Words
