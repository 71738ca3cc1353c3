pub mod verdict
pub mod claims
pub mod records
pub mod inside
pub mod checker
pub mod Numbers
