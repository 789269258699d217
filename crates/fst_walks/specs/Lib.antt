pub mod Searching
pub mod Starting
pub mod Telling
pub mod Descending
pub mod BothEnds
