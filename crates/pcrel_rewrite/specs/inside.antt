-- Words of private contracts.
pub mod Gathered
pub mod Joins
pub mod Order
pub mod Recognised
pub mod Words
