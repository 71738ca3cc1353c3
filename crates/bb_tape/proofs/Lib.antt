-- Facts is for users of any tape; the others serve this crate's own proofs.
pub mod Facts
mod Content
mod TapeViews
mod WiderWindows
mod Sound
mod MapContent
mod Outcome
mod Slices
mod Lanes
mod RingIndex
mod Laying
mod Rings
mod RingSteps
mod Blocks
mod Pieces
mod FromPieces
mod AnyPosition
mod Room
