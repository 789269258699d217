use Rattle.std.proofs.Common.{◌≡◌, ◌∙◌, ap, sym, subst}
use Rattle.fst_levels.specs.{Leveling.{Leveling, level_of, jump_of, parent_of}, declared.levels.Ancestry.Ancestry}
use Rattle.fst_levels.proofs.{Raised.kept_none, Ranked.{kept_found}}
use Rattle.fst_levels.proofs.levels.Levels.rank_of.Goals as goal

pub returns-in-Some-clause-number : goal.returns-in-Some-clause-number
returns-in-Some-clause-number c = ap (λ r. r.number) c.index.ensures ∙ c.in-Some.ensures.found.1 c.index.result.now

pub returns-in-Some-clause-level : goal.returns-in-Some-clause-level
returns-in-Some-clause-level c =
    subst (λ (v : Leveling). c.index.result.now.level ≡ level_of v.ranks c.args.number) c.self.view_is
    (kept_found (λ r. r.level) c.self.inside.ranks.list.items c.self.inside.ranks.rising c.in-Some.index c.args.number c.in-Some.ensures.found.0 c.in-Some.ensures.found.1 c.index.result.now c.index.ensures)

pub returns-in-Some-clause-parent : goal.returns-in-Some-clause-parent
returns-in-Some-clause-parent c =
    subst (λ (v : Leveling). c.index.result.now.ancestry.parent ≡ parent_of v.ranks c.args.number) c.self.view_is
    (kept_found (λ r. r.ancestry.parent) c.self.inside.ranks.list.items c.self.inside.ranks.rising c.in-Some.index c.args.number c.in-Some.ensures.found.0 c.in-Some.ensures.found.1 c.index.result.now c.index.ensures)

pub returns-in-Some-clause-jump : goal.returns-in-Some-clause-jump
returns-in-Some-clause-jump c =
    subst (λ (v : Leveling). c.index.result.now.ancestry.jump ≡ jump_of v.ranks c.args.number) c.self.view_is
    (kept_found (λ r. r.ancestry.jump) c.self.inside.ranks.list.items c.self.inside.ranks.rising c.in-Some.index c.args.number c.in-Some.ensures.found.0 c.in-Some.ensures.found.1 c.index.result.now c.index.ensures)

pub returns-in-None-clause-level : goal.returns-in-None-clause-level
returns-in-None-clause-level c = sym (subst (λ (v : Leveling). level_of v.ranks c.args.number ≡ 0) c.self.view_is (kept_none (λ r. r.level) c.self.inside.ranks.list.items c.args.number c.in-None.ensures.none))

pub returns-in-None-clause-parent : goal.returns-in-None-clause-parent
returns-in-None-clause-parent c = ap (λ (a : Ancestry). a.parent) c.no_ancestry.ensures ∙ sym (subst (λ (v : Leveling). parent_of v.ranks c.args.number ≡ 0) c.self.view_is (kept_none (λ r. r.ancestry.parent) c.self.inside.ranks.list.items c.args.number c.in-None.ensures.none))

pub returns-in-None-clause-jump : goal.returns-in-None-clause-jump
returns-in-None-clause-jump c = ap (λ (a : Ancestry). a.jump) c.no_ancestry.ensures ∙ sym (subst (λ (v : Leveling). jump_of v.ranks c.args.number ≡ 0) c.self.view_is (kept_none (λ r. r.ancestry.jump) c.self.inside.ranks.list.items c.args.number c.in-None.ensures.none))
