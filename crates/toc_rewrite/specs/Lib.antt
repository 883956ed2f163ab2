pub mod Words
pub mod Laid
pub mod Records
pub mod Folds
pub mod Folded
pub mod Uses
pub mod inside
pub mod laws
