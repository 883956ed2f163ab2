pub mod Executable
pub mod Loading
pub mod laws
pub mod inside
