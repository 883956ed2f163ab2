pub mod First
pub mod FileHeader
pub mod Sections
pub mod Names
pub mod Symbols
pub mod Records
pub mod Faults
pub mod laws
