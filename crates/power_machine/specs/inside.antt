pub mod Core
pub mod Loading
pub mod Regions
pub mod Paged
pub mod Words
