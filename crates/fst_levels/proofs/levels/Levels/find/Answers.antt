use Rattle.std.proofs.Common.{◌≡◌, ◌∙◌, ap, map}
use Rattle.fst_heads.specs.Heads.{patches_of}
use Rattle.fst_levels.proofs.Ranked.{number_of, ranked_found, ranked_missing}
use Rattle.fst_levels.proofs.levels.Levels.find.Goals.{After-index_of}
use Rattle.fst_levels.proofs.levels.Levels.find.Goals as goal

-- the ranks stand in the order of the heads
aligned : (c : After-index_of) → map number_of c.self.inside.ranks.list.items ≡ map (λ p. p.number) (patches_of c.args.heads.now.list.items)
aligned c = ap (λ v. map number_of v.ranks) c.self.view_is ∙ c.requires.aligned

pub returns-clause-found : goal.returns-clause-found
returns-clause-found c = ranked_found c.args.heads.now.list.items c.self.inside.ranks.list.items c.args.heads.now.rising (aligned (goal.at.returns-clause-found c).After-index_of) c.args.number c.index_of.result c.index_of.ensures.found

pub returns-clause-none : goal.returns-clause-none
returns-clause-none c = ranked_missing c.args.heads.now.list.items c.self.inside.ranks.list.items c.args.heads.now.rising (aligned (goal.at.returns-clause-none c).After-index_of) c.args.number c.index_of.result c.index_of.ensures.none
