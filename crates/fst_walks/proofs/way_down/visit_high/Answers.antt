use Rattle.std.proofs.lemmas.Grind.{common_steps}
use Rattle.std.proofs.Common.{◌≡◌, ◌≤◌, ◌∙◌, Contains, refl, ap, sym, subst, arith}
use Rattle.std.proofs.lemmas.Bool.{false≢true}
use Rattle.fst_heads.specs.{Heads.patches_of, Tests.is_live_place}
use Rattle.fst_heads.proofs.Indices.{live_at, not_live_none}
use Rattle.fst_walks.specs.BothEnds.{IsHigh}
use Rattle.fst_levels.specs.{Leveling.level_of, Walks.numbers_met}
use Rattle.fst_levels.proofs.{Ranked.{no_rank, rank_level}, MetNumbers.{number_of_met}}
use Rattle.fst_walks.proofs.Visiting.{visits_none, visits_meet, visited_meet}
use Rattle.fst_walks.proofs.way_down.visit_high.Goals.{After-is_live}
use Rattle.fst_walks.proofs.way_down.visit_high.Goals as goal

pub returns-then-is_live-clause-visited : goal.returns-then-is_live-clause-visited
returns-then-is_live-clause-visited c =
    let heads = c.args.sight.now.heads.now.list.items in
    let index = c.in-Some.ensures.found in
    let live = (live_at heads c.args.number c.in-Some.index c.index.result.now c.args.sight.now.heads.now.rising index).0 (sym (c.is_live.ensures ∙ ap (λ h. is_live_place h.place) c.index.ensures) ∙ c.if-is_live.true) in
    visited_meet heads c.args.number c.in-Some.index index c.args.walk.now c.meet.new.self c.meet.ensures live c.requires.visited

pub returns-then-is_live-clause-visits : goal.returns-then-is_live-clause-visits
returns-then-is_live-clause-visits c =
    let sight = c.args.sight.now in
    let heads = sight.heads.now.list.items in
    let ranks = sight.levels.now.ranks in
    let n = c.args.number in
    let index = c.in-Some.ensures.found in
    let live = (live_at heads n c.in-Some.index c.index.result.now c.args.sight.now.heads.now.rising index).0 (sym (c.is_live.ensures ∙ ap (λ h. is_live_place h.place) c.index.ensures) ∙ c.if-is_live.true) in
    let high : c.args.least ≤ level_of ranks n = subst (λ l. c.args.least ≤ l) (c.level.ensures no_rank ∙ rank_level heads ranks c.args.sight.now.heads.now.rising c.requires.sees.leveled.aligned n c.in-Some.index index no_rank) c.if-level-least.true in
    visits_meet heads n c.in-Some.index index c.args.walk.now c.meet.new.self c.meet.ensures (λ m. (m ≡ n) × IsHigh (patches_of heads) (level_of ranks) c.args.least m) (refl, (live, high)) (λ m k. k.0)

pub returns-else-is_live-clause-visits : goal.returns-else-is_live-clause-visits
returns-else-is_live-clause-visits c =
    let sight = c.args.sight.now in
    let heads = sight.heads.now.list.items in
    let n = c.args.number in
    let high = IsHigh (patches_of heads) (level_of sight.levels.now.ranks) c.args.least in
    visits_none (λ m. (m ≡ n) × high m) (numbers_met heads c.args.walk.now) (λ m k.
    let alive = (live_at heads n c.in-Some.index c.index.result.now c.args.sight.now.heads.now.rising c.in-Some.ensures.found).1 (subst high k.0 k.1).0 in
    absurd (false≢true (sym c.if-is_live.false ∙ (c.is_live.ensures ∙ (ap (λ h. is_live_place h.place) c.index.ensures ∙ alive)))))

-- what was met is met
pub returns-else-not-has_met-clause-visits : goal.returns-else-not-has_met-clause-visits
returns-else-not-has_met-clause-visits c =
    let sight = c.args.sight.now in
    let heads = sight.heads.now.list.items in
    let n = c.args.number in
    let met = numbers_met heads c.args.walk.now in
    let there = number_of_met heads c.args.walk.now n c.in-Some.index c.in-Some.ensures.found (c.has_met.ensures.met.0 c.if-not-has_met.false) in
    visits_none (λ m. (m ≡ n) × IsHigh (patches_of heads) (level_of sight.levels.now.ranks) c.args.least m) met (λ m k. subst (Contains met) (sym k.0) there)

pub returns-else-level-least-clause-visits : goal.returns-else-level-least-clause-visits
returns-else-level-least-clause-visits c =
    let sight = c.args.sight.now in
    let heads = sight.heads.now.list.items in
    let ranks = sight.levels.now.ranks in
    let n = c.args.number in
    visits_none (λ m. (m ≡ n) × IsHigh (patches_of heads) (level_of ranks) c.args.least m) (numbers_met heads c.args.walk.now) (λ m k.
    let high = subst (IsHigh (patches_of heads) (level_of ranks) c.args.least) k.0 k.1 in
    let same = c.level.ensures no_rank ∙ rank_level heads ranks c.args.sight.now.heads.now.rising c.requires.sees.leveled.aligned n c.in-Some.index c.in-Some.ensures.found no_rank in
    absurd (omega (arith, same, high.1, c.if-level-least.false)))

pub returns-in_default-clause-visits : goal.returns-in_default-clause-visits
returns-in_default-clause-visits c =
    let sight = c.args.sight.now in
    let heads = sight.heads.now.list.items in
    let n = c.args.number in
    let high = IsHigh (patches_of heads) (level_of sight.levels.now.ranks) c.args.least in
    visits_none (λ m. (m ≡ n) × high m) (numbers_met heads c.args.walk.now) (λ m k. absurd (not_live_none heads n c.in_default.ensures.none (subst high k.0 k.1).0))

pub returns-else-is_live-clause-visited : goal.returns-else-is_live-clause-visited
returns-else-is_live-clause-visited c = grind (arith, common_steps)

pub returns-else-level-least-clause-visited : goal.returns-else-level-least-clause-visited
returns-else-level-least-clause-visited c = grind (arith, common_steps)

pub returns-in_default-clause-visited : goal.returns-in_default-clause-visited
returns-in_default-clause-visited c = grind (arith, common_steps)

pub level-requires : goal.level-requires
level-requires c = grind (arith, common_steps)
