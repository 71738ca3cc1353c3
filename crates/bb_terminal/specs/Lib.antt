pub mod Arguments
pub mod NotBegun
pub mod Status
