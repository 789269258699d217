use Rattle.std.proofs.Common.{◌≡◌, ◌∙◌, get_or, ap, refl, sym, subst, inl, inr, arith}
use Rattle.fst_types.specs.Dependencies.{DependsOn}
use Rattle.fst_heads.specs.{Covers.{IsCovered, newest_over}, Heads.patches_of, Lists.{entries_of, entries_on}}
use Rattle.fst_heads.proofs.{Listing.listed_at, Newest.{over_touched, touched_over}, Touching.touch_parts}
use Rattle.fst_walks.proofs.Overlapped.{sharing_touched, touched_sharing}
use Rattle.fst_walks.proofs.overlap_cycle.overlapped.Goals.{After-as_slice-list}
use Rattle.fst_walks.proofs.overlap_cycle.overlapped.Goals as goal

-- the list has the changes of the block that are not on disk
listed : (c : After-as_slice-list) → entries_of c.as_slice-list.result.now ≡ entries_on c.args.block (patches_of c.args.sight.now.heads.now.list.items)
listed c =
    let sight = c.args.sight.now in
    let patches = patches_of sight.heads.now.list.items in
    let list = c.index-sight-block-then-span-eq0 in
    subst (λ ls. entries_of ls ≡ entries_on c.args.block patches) (sym c.as_slice-list.ensures.value)
    (ap (λ l. entries_of l.items) (sym list.is) ∙ listed_at (λ l. entries_of l.items) patches sight.lists.now c.args.block list.result c.requires.block list.is c.requires.sees.listed)

pub returns-then-span-eq0-clause-only : goal.returns-then-span-eq0-clause-only
returns-then-span-eq0-clause-only c n s =
    sharing_touched (patches_of c.args.sight.now.heads.now.list.items) c.args.block c.args.span.at c.args.span.len (entries_of c.as_slice-list.result.now) (listed (goal.at.returns-then-span-eq0-clause-only c).After-as_slice-list) n s

pub returns-then-span-eq0-clause-above : goal.returns-then-span-eq0-clause-above
returns-then-span-eq0-clause-above c n t =
    (n, touched_sharing (patches_of c.args.sight.now.heads.now.list.items) c.args.block c.args.span.at c.args.span.len (entries_of c.as_slice-list.result.now) (listed (goal.at.returns-then-span-eq0-clause-above c).After-as_slice-list) n t, inl refl)

pub returns-clause-above : goal.returns-clause-above
returns-clause-above c n t =
    let sight = c.args.sight.now in
    let patches = patches_of sight.heads.now.list.items in
    let b = c.args.block in
    let at = c.args.span.at in
    let len = c.args.span.len in
    let cover = get_or sight.covers.now b c.index-sight-block.result in
    let C : IsCovered patches b cover = c.requires.sees.covered.each b c.index-sight-block.result c.requires.block in
    let none = sym c.has_untold.ensures ∙ c.if-has_untold.false in
    let k = touch_parts b at len t.patch.kind t.patch.place t.shares in
    let p = touched_over patches b at len t.patch t.head t.shares (omega (arith, c.if-span-eq0.false)) (C.bytes none t.patch t.head k.0 k.1) in
    let m = C.each none t.patch.number p.0 p.3 in (
      newest_over cover p.0,
      (c.over.ensures p.0 p.1 p.2 m.some, over_touched patches b at len p.0 (newest_over cover p.0) p.1 p.2 m.over),
      elim m.above [
        | inl same ↦ inl (same ∙ t.numbered)
        | inr d ↦ inr (subst (DependsOn patches (newest_over cover p.0)) t.numbered d)
      ],
    )
