-- Verdicts and their lines.
pub mod Verdict
pub mod Line
pub mod Extent
