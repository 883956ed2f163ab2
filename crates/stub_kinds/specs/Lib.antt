pub mod Stubs
pub mod laws
