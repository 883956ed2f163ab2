pub mod Shapes
pub mod Layout
pub mod FarSets
pub mod inside
pub mod Reach
pub mod Settled
pub mod Lying
