-- Words of private contracts.
pub mod Transfer
