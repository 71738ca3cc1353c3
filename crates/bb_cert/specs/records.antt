-- The records of a side of a run.
pub mod Record
pub mod Word
pub mod Agree
pub mod Follow
