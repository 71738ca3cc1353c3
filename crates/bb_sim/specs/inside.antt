-- Definitions for private functions. No public contract cites them.
pub mod Advancing
pub mod Simulating
pub mod Widening
