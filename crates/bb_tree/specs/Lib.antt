pub mod Tree
pub mod Path
pub mod WalkMeter
pub mod TreeLaws
pub mod inside
