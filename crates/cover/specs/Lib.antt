pub mod Assumption
pub mod KeptAssumption
pub mod CommandLine
pub mod Report
pub mod Sought
pub mod Status
