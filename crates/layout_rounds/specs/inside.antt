pub mod Texts
pub mod Seen
pub mod Placed
pub mod Checked
pub mod Calls
pub mod Ways
pub mod Rounds
pub mod Looks
