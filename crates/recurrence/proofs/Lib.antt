pub mod CommandLines
