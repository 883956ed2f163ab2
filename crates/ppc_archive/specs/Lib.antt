pub mod Archive
pub mod Choice
pub mod Chosen
pub mod Expand
pub mod inside
pub mod laws
