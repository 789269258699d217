-- What came back of a write that failed, as calls name it.
pub use Rattle.fst_seat.specs.Seats.{back_view}
