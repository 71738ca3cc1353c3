-- What a verdict claims, and the laws of claims.
pub mod Repeat
pub mod Laws
pub mod FewCells
pub mod Claim
