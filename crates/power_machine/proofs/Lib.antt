mod Answering
pub mod Lists
pub mod Numbers
pub mod Places
pub mod Paging
pub mod Keeping
pub mod Stepping
pub mod Storing
pub mod Tight
pub mod Regions
