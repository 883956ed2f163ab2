pub mod Files
pub mod Sections
pub mod Symbols
pub mod Refusals
pub mod Fit
pub mod Walks
pub mod inside
pub mod laws
