use Rattle.std.proofs.Common.{◌∙◌, ap, map}
use Rattle.fst_levels.specs.Leveling.{Leveling, halved, halved_rank}
use Rattle.fst_levels.proofs.{Eased.{eased_is_leveled, numbers_stay}, Raised.ranked_as}
use Rattle.fst_levels.proofs.levels.Levels.ease.Goals as goal

pub returns-then-self-ge-HIGH-clause-leveled : goal.returns-then-self-ge-HIGH-clause-leveled
returns-then-self-ge-HIGH-clause-leveled c patches blocks leveled =
    eased_is_leveled patches blocks c.args.self.now _
    (c.halve_ranks.ensures.ranks ∙ ap (λ (v : Leveling). map halved_rank v.ranks) c.self.view_is) (c.halve_floors.ensures ∙ ap (λ (v : Leveling). map halved v.floors) c.self.view_is) leveled

pub invariant_of-self-inside : goal.invariant_of-self-inside
invariant_of-self-inside c =
    let ranks = c.self.inside.ranks.list.items in
    record { rising = ranked_as ranks _ (ap (map (λ r. r.number)) c.halve_ranks.ensures.ranks ∙ numbers_stay ranks) c.self.inside.ranks.rising }
