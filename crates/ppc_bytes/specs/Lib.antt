pub mod Bytes
pub mod Elf
pub mod Halves
pub mod laws
