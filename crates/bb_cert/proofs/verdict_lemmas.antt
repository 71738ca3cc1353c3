-- Verdicts and their lines.
pub mod Lengths
pub mod Spaces
pub mod Options
pub mod Numbers
pub mod MachineTexts
pub mod Verdicts
pub mod Lines
pub mod Extents
