pub mod SameCells
pub mod Doublewords
pub mod Numbered
pub mod KeptRanges
pub mod Cells
pub mod Loaded
pub mod Performing
