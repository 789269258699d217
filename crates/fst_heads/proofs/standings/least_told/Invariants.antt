use Rattle.std.proofs.Common.{◌≡◌, ◌<◌, ◌*◌, ℕ, false, length, get_or}
use Rattle.fst_heads.specs.Standings.{AreTold}
use Rattle.fst_heads.proofs.Words.{Standing, may_be_written}
use Rattle.fst_heads.proofs.standings.least_told.Given as goal

abbrev pub invariant-loop-group : goal.invariant-loop-group
invariant-loop-group l = record {
  told : AreTold l.each l.told.items;
  long : length l.told.items ≡ length l.fn.told.items;
  none : (b : ℕ) (d : Standing) → b < l.group * 64 → b < length l.each → may_be_written (get_or l.each b d) ≡ false;
}
