use Rattle.std.proofs.lemmas.Grind.{common_steps}
use Rattle.std.proofs.Common.{◌≡◌, ◌≤◌, ◌∙◌, get_or, refl, subst, arith}
use Rattle.fst_types.specs.Dependencies.{IsLiveNumber}
use Rattle.fst_heads.specs.{Heads.{patch_of, patches_of}, Indices.HasIndex}
use Rattle.fst_heads.proofs.Indices.{not_live_none, patch_at, some_element}
use Rattle.fst_walks.specs.BothEnds.{IsLow}
use Rattle.fst_levels.specs.{Leveling.level_of, Walks.numbers_met}
use Rattle.fst_levels.proofs.Ranked.{no_rank, rank_level}
use Rattle.fst_walks.proofs.Visiting.{visits_none, visits_meet, visited_meet}
use Rattle.fst_walks.proofs.way_up.visit_low.Goals.{In-Some}
use Rattle.fst_walks.proofs.way_up.visit_low.Goals as goal

-- the patch that is there is not on disk
live : (c : In-Some) → IsLiveNumber (patches_of c.args.sight.now.heads.now.list.items) c.args.number
live c =
    let heads = c.args.sight.now.heads.now.list.items in
    let index : HasIndex heads c.args.number c.in-Some.index = c.in-Some.ensures.found in
    let d = some_element heads c.in-Some.index index.0 in
    let head = patch_at heads c.in-Some.index d index.0 in
    record { patch = patch_of (get_or heads c.in-Some.index d); head = head; numbered = index.1 d; live = c.requires.live _ head (index.1 d) }

pub returns-then-level-most-clause-visited : goal.returns-then-level-most-clause-visited
returns-then-level-most-clause-visited c =
    let at = goal.at.returns-then-level-most-clause-visited c in
    visited_meet c.args.sight.now.heads.now.list.items c.args.number c.in-Some.index c.in-Some.ensures.found c.args.walk.now c.meet.new.self c.meet.ensures (live at.In-Some) c.requires.visited

pub returns-then-level-most-clause-visits : goal.returns-then-level-most-clause-visits
returns-then-level-most-clause-visits c =
    let at = goal.at.returns-then-level-most-clause-visits c in
    let sight = c.args.sight.now in
    let heads = sight.heads.now.list.items in
    let ranks = sight.levels.now.ranks in
    let n = c.args.number in
    let index = c.in-Some.ensures.found in
    let low : level_of ranks n ≤ c.args.most = subst (λ l. l ≤ c.args.most) (c.level.ensures no_rank ∙ rank_level heads ranks c.args.sight.now.heads.now.rising c.requires.sees.leveled.aligned n c.in-Some.index index no_rank) c.if-level-most.true in
    visits_meet heads n c.in-Some.index index c.args.walk.now c.meet.new.self c.meet.ensures (λ m. (m ≡ n) × IsLow (patches_of heads) (level_of ranks) c.args.most m) (refl, (live at.In-Some, low)) (λ m k. k.0)

pub returns-else-level-most-clause-visits : goal.returns-else-level-most-clause-visits
returns-else-level-most-clause-visits c =
    let sight = c.args.sight.now in
    let heads = sight.heads.now.list.items in
    let ranks = sight.levels.now.ranks in
    let n = c.args.number in
    visits_none (λ m. (m ≡ n) × IsLow (patches_of heads) (level_of ranks) c.args.most m) (numbers_met heads c.args.walk.now) (λ m k.
    let low = subst (IsLow (patches_of heads) (level_of ranks) c.args.most) k.0 k.1 in
    let same = c.level.ensures no_rank ∙ rank_level heads ranks c.args.sight.now.heads.now.rising c.requires.sees.leveled.aligned n c.in-Some.index c.in-Some.ensures.found no_rank in
    absurd (omega (arith, same, low.1, c.if-level-most.false)))

pub returns-in_default-clause-visits : goal.returns-in_default-clause-visits
returns-in_default-clause-visits c =
    let sight = c.args.sight.now in
    let heads = sight.heads.now.list.items in
    let n = c.args.number in
    let low = IsLow (patches_of heads) (level_of sight.levels.now.ranks) c.args.most in
    visits_none (λ m. (m ≡ n) × low m) (numbers_met heads c.args.walk.now) (λ m k. absurd (not_live_none heads n c.in_default.ensures.none (subst low k.0 k.1).0))

pub level-requires : goal.level-requires
level-requires c = grind (arith, common_steps)
