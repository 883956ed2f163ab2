-- Words of private contracts.
pub mod Gives
pub mod Loads
pub mod Ready
