pub mod Core
pub mod Memory
pub mod Machine
pub mod Others
pub mod Kept
