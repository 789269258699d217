use Rattle.std.proofs.Common.{refl, ◌≡◌, ◌≤◌, ◌∙◌, ◌&&◌, ℕ, sym, ap, get_or, arith}
use Rattle.std.proofs.lemmas.Bool.{false≢true}
use Rattle.fst_types.specs.{Patches.block_of_kind, Tests.is_change_at}
use Rattle.fst_heads.specs.{Grading.IsHardNumber, Heads.{kind_of, patch_of, patches_of}, Reaching.IsReached, Tests.is_hard_kind, declared.head.Head.Head}
use Rattle.fst_heads.proofs.Indices.{patch_at}
use Rattle.fst_walks.specs.BothEnds.{IsLowChange}
use Rattle.fst_levels.specs.{Leveling.level_of, Walks.numbers_met, WayBack.Crosses}
use Rattle.fst_walks.proofs.CrossingBack.{no_change, crosses_from, crosses_to, shows_more, shows_same, shows_none}
use Rattle.fst_levels.proofs.Above.{hard_on_here, hard_same}
use Rattle.fst_levels.proofs.NearRow.{hard_here, here_hard}
use Rattle.fst_walks.proofs.Visiting.{visits_none, visits_same}
use Rattle.fst_types.specs.declared.place.Place.TheVariants as place
use Rattle.fst_walks.proofs.way_up.cross.Goals as goal

pub bounds-crossed-block : goal.bounds-crossed-block
bounds-crossed-block c =
    let inside = c.requires.sees.inside _ c.in-Change.block (patch_at c.args.sight.now.heads.now.list.items c.args.index _ c.requires.index.0) ((sym (ap (λ (h : Head). block_of_kind (kind_of h.kind)) c.index.ensures) ∙ ap (λ k. block_of_kind (kind_of k)) c.in-Change.is)) in
    omega (arith, inside, c.requires.crossed)

pub bounds-crossed-block-then-not-crossed-block : goal.bounds-crossed-block-then-not-crossed-block
bounds-crossed-block-then-not-crossed-block c =
    let inside = c.requires.sees.inside _ c.in-Change.block (patch_at c.args.sight.now.heads.now.list.items c.args.index _ c.requires.index.0) ((sym (ap (λ (h : Head). block_of_kind (kind_of h.kind)) c.index.ensures) ∙ ap (λ k. block_of_kind (kind_of k)) c.in-Change.is)) in
    omega (arith, inside, c.requires.crossed)

pub visit_low_changes-requires-clause-block : goal.visit_low_changes-requires-clause-block
visit_low_changes-requires-clause-block c = c.requires.sees.inside _ c.in-Change.block (patch_at c.args.sight.now.heads.now.list.items c.args.index _ c.requires.index.0) ((sym (ap (λ (h : Head). block_of_kind (kind_of h.kind)) c.index.ensures) ∙ ap (λ k. block_of_kind (kind_of k)) c.in-Change.is))

pub returns-then-not-crossed-block : goal.returns-then-not-crossed-block
returns-then-not-crossed-block c =
    let heads = c.args.sight.now.heads.now.list.items in
    let rising = c.args.sight.now.heads.now.rising in
    let level = level_of c.args.sight.now.levels.now.ranks in
    let most = c.args.most in
    let n = c.args.number in
    let s = c.args.index in
    let b = c.in-Change.block in
    let d = c.index-in-Change.result.now in
    let crossed = c.args.crossed.now in
    let said : c.is_hard_in.result ≡ (is_change_at place.Memory b (patch_of (get_or heads s d)) && is_hard_kind (kind_of (get_or heads s d).kind)) =
    c.is_hard_in.ensures ∙ ap (λ h. is_change_at place.Memory b (patch_of h) && is_hard_kind (kind_of h.kind)) c.index-in-Change.ensures in
    let hard : IsHardNumber (patches_of heads) b n = hard_here heads rising n s d c.requires.index b (sym said ∙ c.if-is_hard_in.true) in
    let fresh : IsReached crossed b → ⊥ = λ r. false≢true (sym c.if-not-crossed-block.true ∙ r) in
    let inside = c.requires.sees.inside _ b (patch_at heads s _ c.requires.index.0) ((sym (ap (λ (h : Head). block_of_kind (kind_of h.kind)) c.index.ensures) ∙ ap (λ k. block_of_kind (kind_of k)) c.in-Change.is)) in
    record {
      visited = c.visit_low_changes.ensures.visited;
      room = c.visit_low_changes.ensures.room;
      visits = visits_same (IsLowChange (patches_of heads) level most b) (λ q. Crosses (patches_of heads) crossed n q × (level q ≤ most)) (numbers_met heads c.args.walk.now) (numbers_met heads c.visit_low_changes.new.walk)
          (λ q x. (crosses_from heads rising n s d c.requires.index b hard crossed q fresh x.0, x.1))
          (λ q k. ((crosses_to heads rising n s d c.requires.index b hard crossed q k.0).1, k.1))
          c.visit_low_changes.ensures.visits;
      crossed = shows_more heads rising n s d c.requires.index b hard crossed (omega (arith, inside, c.requires.crossed));
    }

pub returns-else-not-crossed-block : goal.returns-else-not-crossed-block
returns-else-not-crossed-block c =
    let heads = c.args.sight.now.heads.now.list.items in
    let rising = c.args.sight.now.heads.now.rising in
    let level = level_of c.args.sight.now.levels.now.ranks in
    let most = c.args.most in
    let n = c.args.number in
    let s = c.args.index in
    let b = c.in-Change.block in
    let d = c.index-in-Change.result.now in
    let crossed = c.args.crossed.now in
    let said : c.is_hard_in.result ≡ (is_change_at place.Memory b (patch_of (get_or heads s d)) && is_hard_kind (kind_of (get_or heads s d).kind)) =
    c.is_hard_in.ensures ∙ ap (λ h. is_change_at place.Memory b (patch_of h) && is_hard_kind (kind_of h.kind)) c.index-in-Change.ensures in
    let hard : IsHardNumber (patches_of heads) b n = hard_here heads rising n s d c.requires.index b (sym said ∙ c.if-is_hard_in.true) in
    record {
      visited = c.requires.visited;
      room = refl;
      visits = visits_none (λ q. Crosses (patches_of heads) crossed n q × (level q ≤ most)) (numbers_met heads c.args.walk.now) (λ q k. absurd ((crosses_to heads rising n s d c.requires.index b hard crossed q k.0).0 c.if-not-crossed-block.false));
      crossed = shows_same heads rising n s d c.requires.index b hard crossed c.if-not-crossed-block.false;
    }

pub returns-else-is_hard_in : goal.returns-else-is_hard_in
returns-else-is_hard_in c =
    let heads = c.args.sight.now.heads.now.list.items in
    let rising = c.args.sight.now.heads.now.rising in
    let level = level_of c.args.sight.now.levels.now.ranks in
    let most = c.args.most in
    let n = c.args.number in
    let s = c.args.index in
    let b = c.in-Change.block in
    let d = c.index-in-Change.result.now in
    let crossed = c.args.crossed.now in
    let said : c.is_hard_in.result ≡ (is_change_at place.Memory b (patch_of (get_or heads s d)) && is_hard_kind (kind_of (get_or heads s d).kind)) =
    c.is_hard_in.ensures ∙ ap (λ h. is_change_at place.Memory b (patch_of h) && is_hard_kind (kind_of h.kind)) c.index-in-Change.ensures in
    let on = (sym (ap (λ (h : Head). block_of_kind (kind_of h.kind)) c.index.ensures) ∙ ap (λ k. block_of_kind (kind_of k)) c.in-Change.is) in
    let none : (k : ℕ) → IsHardNumber (patches_of heads) k n → ⊥ = λ k h.
    false≢true (sym c.if-is_hard_in.false ∙ (said ∙ here_hard heads rising n s d c.requires.index b (hard_same heads rising n s _ c.requires.index b on k h))) in
    record {
      visited = c.requires.visited;
      room = refl;
      visits = visits_none (λ q. Crosses (patches_of heads) crossed n q × (level q ≤ most)) (numbers_met heads c.args.walk.now) (λ q k. absurd (none k.0.block k.0.hard));
      crossed = shows_none (patches_of heads) n none crossed;
    }

pub returns-in_default : goal.returns-in_default
returns-in_default c =
    let heads = c.args.sight.now.heads.now.list.items in
    let level = level_of c.args.sight.now.levels.now.ranks in
    let most = c.args.most in
    let n = c.args.number in
    let none : (k : ℕ) → IsHardNumber (patches_of heads) k n → ⊥ = λ k h.
    no_change _ c.in_default.not-Change k (ap (λ (x : Head). block_of_kind (kind_of x.kind)) c.index.ensures ∙ (hard_on_here heads c.args.sight.now.heads.now.rising n c.args.index _ c.requires.index k h).change) in
    record {
      visited = c.requires.visited;
      room = refl;
      visits = visits_none (λ q. Crosses (patches_of heads) c.args.crossed.now n q × (level q ≤ most)) (numbers_met heads c.args.walk.now) (λ q k. absurd (none k.0.block k.0.hard));
      crossed = shows_none (patches_of heads) n none c.args.crossed.now;
    }
