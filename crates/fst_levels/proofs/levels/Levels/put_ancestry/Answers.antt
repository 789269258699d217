use Rattle.std.proofs.{Common.{◌≡◌, ◌<◌, ◌∙◌, ap, get_or, length, subst, sym}, Math.Seq.map-set_same}
use Rattle.fst_levels.specs.{Leveling.Leveling, declared.levels.{Ancestry.Ancestry, Rank.Rank}}
use Rattle.fst_heads.proofs.Indices.{any_default}
use Rattle.fst_levels.proofs.Raised.{kept_beside, kept_here}
use Rattle.fst_levels.proofs.levels.Levels.put_ancestry.Goals.{After-index_mut}
use Rattle.fst_levels.proofs.levels.Levels.put_ancestry.Goals as goal

-- the rank that is put there
abbrev with_ancestry : Ancestry → Rank → Rank
with_ancestry ancestry r = record r { ancestry = ancestry }

inside : (c : After-index_mut) → c.args.index < length c.self.inside.ranks.list.items
inside c = subst (λ (v : Leveling). c.args.index < length v.ranks) (sym c.self.view_is) c.requires

same : (c : After-index_mut) (d : Rank) → (get_or c.self.inside.ranks.list.items c.args.index d).number ≡ c.index_mut.result.now.number
same c d = ap (λ (r : Rank). r.number) (any_default c.self.inside.ranks.list.items c.args.index d c.index_mut.result.now (inside c) ∙ sym c.index_mut.ensures.value)

pub returns-clause-numbers : goal.returns-clause-numbers
returns-clause-numbers c =
    rw (← c.self.view_is) (map-set_same (λ (r : Rank). r.number) c.self.inside.ranks.list.items c.args.index (with_ancestry c.args.ancestry c.index_mut.result.now) c.index_mut.result.now (ap (λ (r : Rank). r.number) c.index_mut.ensures.value))

pub returns-clause-levels : goal.returns-clause-levels
returns-clause-levels c =
    rw (← c.self.view_is) (map-set_same (λ (r : Rank). r.level) c.self.inside.ranks.list.items c.args.index (with_ancestry c.args.ancestry c.index_mut.result.now) c.index_mut.result.now (ap (λ (r : Rank). r.level) c.index_mut.ensures.value))

pub returns-clause-overs : goal.returns-clause-overs
returns-clause-overs c =
    rw (← c.self.view_is) (map-set_same (λ (r : Rank). r.hard_over) c.self.inside.ranks.list.items c.args.index (with_ancestry c.args.ancestry c.index_mut.result.now) c.index_mut.result.now (ap (λ (r : Rank). r.hard_over) c.index_mut.ensures.value))

pub returns-clause-parent : goal.returns-clause-parent
returns-clause-parent c d =
    let at = (goal.at.returns-clause-parent c).After-index_mut in
    rw (← c.self.view_is) (kept_here (λ r. r.ancestry.parent) (with_ancestry c.args.ancestry c.index_mut.result.now) c.self.inside.ranks.list.items c.args.index d c.self.inside.ranks.rising (inside at) (same at d))

pub returns-clause-jump : goal.returns-clause-jump
returns-clause-jump c d =
    let at = (goal.at.returns-clause-jump c).After-index_mut in
    rw (← c.self.view_is) (kept_here (λ r. r.ancestry.jump) (with_ancestry c.args.ancestry c.index_mut.result.now) c.self.inside.ranks.list.items c.args.index d c.self.inside.ranks.rising (inside at) (same at d))

pub returns-clause-rest : goal.returns-clause-rest
returns-clause-rest c =
    let at = (goal.at.returns-clause-rest c).After-index_mut in
    let new = with_ancestry c.args.ancestry c.index_mut.result.now in
    rw (← c.self.view_is) (λ d n other. (
      kept_beside (λ r. r.ancestry.parent) new c.self.inside.ranks.list.items c.args.index d n (same at d) other,
      kept_beside (λ r. r.ancestry.jump) new c.self.inside.ranks.list.items c.args.index d n (same at d) other,
    ))
