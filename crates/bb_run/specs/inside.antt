-- Definitions for private functions. No public contract cites them.
pub mod Costing
pub mod Validating
pub mod RunningOn
