pub mod Positions
pub mod Steps
pub mod Standing
pub mod Stepping
pub mod Outcomes
pub mod LawLemmas
pub mod RunLaws
pub mod Counting
pub mod Endings
pub mod Pigeonhole
pub mod Encoding
pub mod FewCells
pub mod RunningOn
pub mod Parity
pub mod Facts
mod NamedRuns
