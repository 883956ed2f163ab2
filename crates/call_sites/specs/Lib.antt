pub mod Classes
pub mod Words
pub mod Sites
pub mod Refusals
pub mod laws
pub mod inside
