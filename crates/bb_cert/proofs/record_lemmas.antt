-- The records of a side of a run.
pub mod Positions
pub mod Records
pub mod Agreements
pub mod RecordPairs
pub mod Heads
pub mod Tops
pub mod Stretches
pub mod UnderWay
pub mod ReplayStates
pub mod Comparing
pub mod KeptReplays
pub mod Word
