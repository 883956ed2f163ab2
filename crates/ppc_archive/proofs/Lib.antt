pub mod FieldText
pub mod Headers
pub mod Passing
pub mod NameMaps
pub mod Firsts
pub mod Choosing
pub mod Closing
pub mod Replacing
