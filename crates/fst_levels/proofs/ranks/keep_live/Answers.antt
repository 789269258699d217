use Rattle.std.proofs.Common.{◌≡◌, ◌<◌, ◌∙◌, arith, filter, length, refl, rules, subst, sym, vec_capacity}
use Rattle.std.proofs.lemmas.List.Filters.{FiltersInPlace}
use Rattle.fst_heads.proofs.LastOnDisk.{end_inside}
use Rattle.fst_levels.proofs.{KeptLive.{live_rank, rank_dropped, rank_kept, ranks_from, ranks_left}, Ranked.ranks_long}
use Rattle.fst_levels.proofs.ranks.keep_live.Goals.{then-is_kept, else-is_kept, In-loop-index}
use Rattle.fst_levels.proofs.ranks.keep_live.Goals as goal

pub loop-index-init : goal.loop-index-init
loop-index-init c = record { kept = ranks_from c.args.heads.now.list.items c.args.ranks.now.items c.args.heads.now.rising c.requires.aligned c.args.first c.requires.disk.begins; capacity = refl }

-- the index is that of a rank and of a head
rank_inside : (c : In-loop-index) → c.loop-index.index < length c.loop-index.ranks.items
rank_inside c =
    let long = ranks_long c.args.heads.now.list.items c.args.ranks.now.items c.args.heads.now.rising c.requires.aligned in
    omega (arith, c.loop-index-test.true, c.loop-index.invariant.kept.long, long, end_inside c.args.heads.now.list.items c.args.first c.args.end c.requires.disk)

head_inside : (c : In-loop-index) → c.loop-index.index < length c.args.heads.now.list.items
head_inside c = omega (arith, rank_inside c, c.loop-index.invariant.kept.long, ranks_long c.args.heads.now.list.items c.args.ranks.now.items c.args.heads.now.rising c.requires.aligned)

pub loop-index-preserved : goal.loop-index-preserved
loop-index-preserved c =
    let k = c.loop-index.invariant in
    let inside = rank_inside (goal.at.loop-index-preserved c).In-loop-index in
    let heads = c.args.heads.now.list.items in
    let ranks = c.args.ranks.now.items in
    elim c.if-is_kept.branch [
      | then-is_kept w ↦ rw (w.ranks-is, w.kept-is) record {
        kept = rank_kept heads ranks c.args.heads.now.rising c.requires.aligned _ _ _ k.kept inside c.index.result.now c.index.ensures w.index-then-is_kept.result.now w.index-then-is_kept.ensures (sym c.is_kept.ensures ∙ w.if-is_kept.true);
        capacity = k.capacity;
      }
      | else-is_kept w ↦ rw (w.ranks-is, w.kept-is) record {
        kept = rank_dropped heads ranks c.args.heads.now.rising c.requires.aligned _ _ _ k.kept inside c.index.result.now c.index.ensures (sym c.is_kept.ensures ∙ w.if-is_kept.false);
        capacity = k.capacity;
      }
    ]

pub returns : goal.returns
returns c =
    let heads = c.args.heads.now.list.items in
    let ranks = c.args.ranks.now.items in
    let at : c.loop-index.index ≡ c.args.end = omega (arith, c.loop-index-test.false, c.loop-index.auto.index-end, c.requires.disk.ordered) in
    let kept = subst (λ n. FiltersInPlace (live_rank heads) ranks c.loop-index.ranks.items c.loop-index.kept n) at c.loop-index.invariant.kept in
    let left : c.drop-drain.new.self.0.items ≡ filter (live_rank heads) ranks =
    c.drop-drain.ensures.items ∙ (c.drain.ensures.kept ∙ ranks_left heads ranks c.args.heads.now.rising c.requires.aligned c.args.first c.args.end c.requires.disk c.loop-index.ranks.items c.loop-index.kept kept) in
    let same : vec_capacity c.drop-drain.new.self.0 ≡ vec_capacity c.args.ranks.now = c.drop-drain.ensures.capacity ∙ (c.drain.ensures.capacity ∙ c.loop-index.invariant.capacity) in
    record { ranks = search rules; capacity = search rules }
