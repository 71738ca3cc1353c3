pub mod Costs
pub mod Given
pub mod Lengths
