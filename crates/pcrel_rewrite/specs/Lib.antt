pub mod Pairs
pub mod Rewriting
pub mod TextPairs
pub mod Words
pub mod inside
pub mod laws
