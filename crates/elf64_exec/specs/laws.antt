pub mod Segments
pub mod Faults
