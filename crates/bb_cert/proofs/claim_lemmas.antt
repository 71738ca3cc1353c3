-- What a verdict claims, and the laws of claims.
pub mod Regions
pub mod Repeats
pub mod NoRecords
pub mod Claims
pub mod Standing
pub mod FewCells
