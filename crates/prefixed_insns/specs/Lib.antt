pub mod laws
pub mod Meaning
pub mod ShortForms
pub mod Table
