pub mod Buffer
pub mod Call
pub mod Cost
pub mod Numbers
pub mod Sample
