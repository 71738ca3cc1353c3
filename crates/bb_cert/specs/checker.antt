-- The checker of a claim.
pub mod Answer
pub mod ClaimMeter
pub mod Course
pub mod Pair
