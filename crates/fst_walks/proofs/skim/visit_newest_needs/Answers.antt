use Rattle.std.proofs.Common.{inl, inr}
use Rattle.fst_walks.proofs.skim.visit_newest_needs.Goals as goal

pub loop-turn-preserved : goal.loop-turn-preserved
loop-turn-preserved c = record {
  visited = c.visit_newest.ensures.visited;
  only = λ n k. elim (c.visit_newest.ensures.only n k) [ inl was ↦ c.loop-turn.invariant.only n was | inr x ↦ inr x ];
}
