pub mod Values
pub mod Plain
pub mod Actions
pub mod Start
pub mod inside
pub mod laws
