mod Places
mod Meeting
mod Walks
mod Takes
mod Apart
mod Undo
mod Choosing
mod Blocks
