pub mod Basics
mod Patches
pub mod Words
pub mod Indices
pub mod Rows
pub mod Making
mod Runs
pub mod Newest
pub mod Covering
pub mod Touching
pub mod Forgetting
pub mod Leading
pub mod Graded
pub mod AtNumber
pub mod Linking
pub mod Placed
pub mod Listing
pub mod Joining
pub mod Stretches
pub mod Sums
pub mod PendingAt
mod LinkedRows
pub mod Added
pub mod PendingIn
pub mod Counts
pub mod CountsAs
mod Releasing
pub mod Stands
pub mod Turning
mod Going
pub mod Waiting
mod Notifying
mod Popping
pub mod Pended
pub mod Starting
mod Launching
mod Rising
pub mod Carried
mod Halves
mod Telling
mod Uncovered
mod Passing
mod Landing
pub mod Indexed
pub mod Beside
pub mod Framed
pub mod FirstOnDisk
pub mod LastOnDisk
pub mod Few
pub mod Landed
pub mod Flagged
