use Rattle.std.proofs.Common.{◌≡◌, ◌<◌, ◌∙◌, arith, filter, length, subst, sym, rules}
use Rattle.std.proofs.lemmas.List.Filters.{FiltersInPlace, FiltersInPlace-more_no, FiltersInPlace-more_swap}
use Rattle.fst_heads.proofs.{FirstOnDisk.{heads_from, live_head}, LastOnDisk.{end_inside, heads_left}}
use Rattle.fst_heads.proofs.places.swap_on_disk.Goals.{then-is_kept, else-is_kept, In-loop-index}
use Rattle.fst_heads.proofs.places.swap_on_disk.Goals as goal

pub loop-index-init : goal.loop-index-init
loop-index-init c = heads_from c.args.heads.now.items c.args.first c.requires.begins

-- the index is that of a head
inside : (c : In-loop-index) → c.loop-index.index < length c.loop-index.heads.items
inside c = omega (arith, c.loop-index-test.true, c.loop-index.invariant.long, end_inside c.args.heads.now.items c.args.first c.args.end c.requires)

pub swap-requires-clause-i_in_bounds : goal.swap-requires-clause-i_in_bounds
swap-requires-clause-i_in_bounds c = omega (arith, inside (goal.at.swap-requires-clause-i_in_bounds c).In-loop-index, c.loop-index.invariant.behind, c.loop-index.heads.ok.0)

pub overflow_add-kept : goal.overflow_add-kept
overflow_add-kept c = let le = c.loop-index.invariant.behind in search rules

pub loop-index-preserved : goal.loop-index-preserved
loop-index-preserved c =
    let here = inside (goal.at.loop-index-preserved c).In-loop-index in
    elim c.if-is_kept.branch [
      | then-is_kept w ↦ rw (w.heads-is, w.kept-is) (FiltersInPlace-more_swap {x = c.index.result.now} c.loop-index.invariant here (sym c.is_kept.ensures ∙ w.if-is_kept.true) c.index.ensures w.swap.ensures.by_index)
      | else-is_kept w ↦ rw (w.heads-is, w.kept-is) (FiltersInPlace-more_no {x = c.index.result.now} c.loop-index.invariant here (sym c.is_kept.ensures ∙ w.if-is_kept.false) c.index.ensures)
    ]

pub returns : goal.returns
returns c =
    let heads = c.args.heads.now.items in
    let at : c.loop-index.index ≡ c.args.end = omega (arith, c.loop-index-test.false, c.loop-index.auto.index-end, c.requires.ordered) in
    let kept = subst (λ n. FiltersInPlace live_head heads c.loop-index.heads.items c.loop-index.kept n) at c.loop-index.invariant in
    let left : c.drop-drain.new.self.0.items ≡ filter live_head heads = c.drop-drain.ensures.items ∙ (c.drain.ensures.kept ∙ heads_left heads c.args.first c.args.end c.requires c.loop-index.heads.items c.loop-index.kept kept) in
    search rules
