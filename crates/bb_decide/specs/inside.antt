-- Definitions for private functions. No public contract cites them.
pub mod Follow
pub mod Search
pub mod SearchResult
pub mod Fingerprints
pub mod Sprints
pub mod Step
pub mod RegisterPass
pub mod RegisterRecords
pub mod Searching
pub mod BlockPasses
