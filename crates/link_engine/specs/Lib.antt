pub mod Options
pub mod Link
pub mod Plain
pub mod Texts
pub mod inside
pub mod laws
