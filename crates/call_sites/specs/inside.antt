-- Words of private contracts.
pub mod Calls
pub mod Ready
pub mod Halves
