pub mod PlacedCalls
pub mod StableSorts
pub mod FileCalls
pub mod ReadyFiles
pub mod SitesLeft
pub mod CallTargets
pub mod SeenHalves
pub mod SymbolsPassed
