mod Obstacles
pub mod NearRow
pub mod Ranked
pub mod Seen
pub mod Shelves
pub mod Linked
pub mod Low
mod Staying
mod Alone
pub mod Ready
pub mod Numbered
pub mod Held
mod Clean
pub mod Resting
pub mod MetNumbers
pub mod Holding
pub mod ComesBack
pub mod Above
pub mod OwnBlock
pub mod Backed
pub mod EndsWere
pub mod Trails
pub mod Leveled
mod Lifted
mod Lowered
mod Eased
mod Dropped
mod AncestorsKept
pub mod LeveledKept
mod Raised
mod Raising
mod OneOfMany
mod StoodFor
mod PutMore
pub mod RanksLeft
mod KeptLive
mod Renewed
pub mod Ancestral
pub mod Releveled
mod Floored
pub mod KeptOver
pub mod NoWayBack
mod Straight
mod NeedsKept
pub mod Pruned
mod LeftOut
pub mod NeedsMoved
pub mod NeedsGrown
pub mod Highest
pub mod Reversed
