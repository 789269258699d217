use Rattle.std.proofs.Common.{◌<◌, sym, subst}
use Rattle.std.proofs.lemmas.List.Kept.{AllPairs-filter}
use Rattle.fst_levels.specs.{Leveling.AreRanked, declared.levels.Rank.Rank}
use Rattle.fst_levels.proofs.levels.Levels.forget.Goals as goal

pub invariant_of-self-inside : goal.invariant_of-self-inside
invariant_of-self-inside c = record { rising = subst AreRanked (sym c.keep_live.ensures.ranks) (AllPairs-filter (λ (r q : Rank). r.number < q.number) _ c.self.inside.ranks.list.items c.self.inside.ranks.rising) }
