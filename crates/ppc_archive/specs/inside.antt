-- Words of private contracts.
pub mod Givers
pub mod Pools
pub mod Reading
pub mod Spots
