mod Ends
pub mod Facts
mod Pieces
mod Prefixes
mod Progress
mod Replies
mod Sends
