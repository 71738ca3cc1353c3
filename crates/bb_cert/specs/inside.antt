-- Definitions for private functions. No public contract cites them.
pub mod Checks
pub mod RegisterChecks
pub mod Runs
