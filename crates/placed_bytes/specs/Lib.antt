pub mod Patches
pub mod laws
