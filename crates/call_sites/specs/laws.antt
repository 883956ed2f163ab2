-- What crates above may cite, with its proofs.
pub mod KeptLists
pub mod Rising
pub mod TextSizes
pub mod TextFacts
pub mod TextSections
pub mod CodePlaces
pub mod SoundCalls
pub mod RecordCalls
pub mod OneCall
pub mod SiteFacts
pub mod SiteOrder
