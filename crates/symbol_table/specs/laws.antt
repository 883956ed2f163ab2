-- What crates above may cite, with its proofs.
pub mod Text
pub mod Definitions
pub mod Targets
pub mod Sections
pub mod Prologue
pub mod FilteredLists
pub mod RecordWalk
pub mod Records
