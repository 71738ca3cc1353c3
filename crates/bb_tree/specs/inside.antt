-- Definitions for private functions. No public contract cites them.
pub mod Walk
pub mod Steps
