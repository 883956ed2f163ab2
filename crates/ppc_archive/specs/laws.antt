-- Laws that crates above may cite, with their proofs.
pub mod OneJob
