use Rattle.std.proofs.{Common.{◌∙◌, ℕ, ap, sym}, Math.Seq.map-set_same}
use Rattle.fst_levels.specs.{Leveling.unleveled, declared.levels.Rank.Rank}
use Rattle.fst_heads.proofs.Indices.{any_default}
use Rattle.fst_levels.proofs.Raised.{kept_beside, kept_here, ranked_as}
use Rattle.fst_levels.proofs.ranks.Ranks.raise.Goals as goal

-- the rank that is put there
abbrev at_level : ℕ → Rank → Rank
at_level to r = record r { level = to }

pub returns-clause-numbers : goal.returns-clause-numbers
returns-clause-numbers c =
    map-set_same (λ (r : Rank). r.number) c.args.self.now.list.items c.args.index (at_level c.args.to c.index_mut.result.now) c.index_mut.result.now (ap (λ (r : Rank). r.number) c.index_mut.ensures.value)

pub returns-clause-beside : goal.returns-clause-beside
returns-clause-beside c =
    map-set_same unleveled c.args.self.now.list.items c.args.index (at_level c.args.to c.index_mut.result.now) c.index_mut.result.now (ap unleveled c.index_mut.ensures.value)

pub returns-clause-raised : goal.returns-clause-raised
returns-clause-raised c d =
    let ranks = c.args.self.now.list.items in
    let was = c.index_mut.result.now in
    kept_here (λ r. r.level) (at_level c.args.to was) ranks c.args.index d c.args.self.now.rising c.requires (ap (λ (r : Rank). r.number) (any_default ranks c.args.index d was c.requires ∙ sym c.index_mut.ensures.value))

pub returns-clause-rest : goal.returns-clause-rest
returns-clause-rest c d n other =
    let ranks = c.args.self.now.list.items in
    let was = c.index_mut.result.now in
    kept_beside (λ r. r.level) (at_level c.args.to was) ranks c.args.index d n (ap (λ (r : Rank). r.number) (any_default ranks c.args.index d was c.requires ∙ sym c.index_mut.ensures.value)) other

pub invariant_of-self : goal.invariant_of-self
invariant_of-self c =
    record { rising = ranked_as c.args.self.now.list.items _ (map-set_same (λ (r : Rank). r.number) c.args.self.now.list.items c.args.index (at_level c.args.to c.index_mut.result.now) c.index_mut.result.now (ap (λ (r : Rank). r.number) c.index_mut.ensures.value)) c.args.self.now.rising }
