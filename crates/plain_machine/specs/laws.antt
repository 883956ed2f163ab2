pub mod Meaning
pub mod Pieces
pub mod PlacesRelated
