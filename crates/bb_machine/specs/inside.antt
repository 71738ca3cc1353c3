-- Definitions for private functions. No public contract cites them.
pub mod Draft
pub mod Places
