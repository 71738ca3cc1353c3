pub mod Lines
pub mod Pairs
pub mod Recurrence
pub mod Seen
pub mod Shift
pub mod Uses
pub mod Verdicts
