-- Words of private contracts.
pub mod Limits
pub mod Numbered
pub mod Ends
pub mod Open
pub mod Laid
pub mod Named
pub mod Plans
pub mod Values
pub mod Memory
pub mod Filled
