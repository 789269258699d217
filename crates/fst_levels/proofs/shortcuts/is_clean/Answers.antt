use Rattle.std.proofs.Common.{◌≡◌, ◌∙◌, length, sym, ap, subst, arith}
use Rattle.std.proofs.lemmas.{Bool.eqb-true, List.length-map}
use Rattle.fst_heads.specs.{Heads.patches_of, Lists.{entries_of, entries_on}, declared.lists.Listed.Listed}
use Rattle.fst_heads.proofs.Listing.{listed_at, rising_patches}
use Rattle.fst_levels.proofs.{Clean.clean_nowhere, Above.change_listed}
use Rattle.fst_levels.proofs.shortcuts.is_clean.Goals as goal

pub returns : goal.returns
returns c e =
    let sight = c.args.sight.now in
    let patches = patches_of sight.heads.now.list.items in
    let b = c.args.block in
    let list = c.as_slice-list.result.now in
    let listed = subst (λ ls. entries_of ls ≡ entries_on b patches) (sym c.as_slice-list.ensures.value)
    (ap (λ l. entries_of l.items) (sym c.index-sight-block.is) ∙ listed_at (λ l. entries_of l.items) patches sight.lists.now b c.index-sight-block.result c.requires.block c.index-sight-block.is c.requires.sees.listed) in
    let empty : length list ≡ 0 = eqb-true (length list) 0 (sym c.is_empty.ensures ∙ e) in
    clean_nowhere patches (rising_patches sight.heads.now.list.items c.args.sight.now.heads.now.rising) b (λ n x.
    let k = change_listed patches list b n listed x in
    absurd (omega (arith, k.1, length-map list (λ (l : Listed). l.number), empty)))
