pub mod Cursors
pub mod RecordsLeft
pub mod KeptSorts
