-- Patches, as calls name them.
pub use Rattle.fst_seat.specs.Names.{numbers_of}
