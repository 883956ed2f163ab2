-- Words of private contracts.
pub mod Laid
pub mod Tables
pub mod Uses
pub mod Slots
