use Rattle.std.proofs.Common.{Contains, inl, inr, subst, sym, arith}
use Rattle.fst_levels.specs.Needing.{needs_of}
use Rattle.fst_walks.proofs.skim.visit_newest.Goals as goal

pub newest_at-requires : goal.newest_at-requires
newest_at-requires c = omega (arith, c.requires.block, c.requires.sees.needing.long)

pub returns-in-Some-clause-only : goal.returns-in-Some-clause-only
returns-in-Some-clause-only c n k = elim (c.visit_high.ensures.visits.only n k) [
  | inl was ↦ inl was
  | inr x ↦ inr ((subst (Contains (needs_of c.args.sight.now.needs.now.lists c.args.block)) (sym x.0) c.in-Some.ensures, x.1.0), x.1.1)
]
