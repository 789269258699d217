pub mod WayBack
pub mod Walks
pub mod Sights
pub mod Ancestors
pub mod Leveling
pub mod Lifting
pub mod Needing
