-- The checker of a claim.
pub mod AnswerRules
pub mod ClaimChecks
pub mod InRegisters
