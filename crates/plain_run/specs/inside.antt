-- Words of private contracts.
pub mod Data
pub mod Effects
pub mod Marks
pub mod Starts
pub mod Text
