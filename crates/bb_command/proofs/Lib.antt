pub mod Facts
pub mod CommandValues
pub mod CommandShapes
pub mod CommandLines
pub mod Parses
