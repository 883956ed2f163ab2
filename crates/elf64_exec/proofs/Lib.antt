pub mod Lengths
pub mod ReadHeaders
pub mod Placing
pub mod WrittenHeaders
pub mod WrittenContents
pub mod Written
