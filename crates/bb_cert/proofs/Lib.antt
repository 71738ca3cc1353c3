pub mod verdict_lemmas
pub mod claim_lemmas
pub mod record_lemmas
pub mod checker_lemmas
pub mod Facts
