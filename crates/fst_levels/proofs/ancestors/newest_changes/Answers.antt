use Rattle.std.proofs.Common.{◌≡◌, ◌∙◌, map, Contains, take, drop, subst, sym, ap}
use Rattle.std.proofs.lemmas.{List.{Elements.Contains-append_right, map-append, take-append-drop, take_rest}}
use Rattle.fst_heads.specs.{Heads.patches_of, Lists.{entries_of, entries_on}, declared.lists.Listed.Listed}
use Rattle.fst_heads.proofs.Listing.{listed_at}
use Rattle.fst_levels.proofs.Above.{listed_change}
use Rattle.fst_levels.proofs.ancestors.newest_changes.Goals as goal

pub returns : goal.returns
returns c n there =
    let patches = patches_of c.args.sight.now.heads.now.list.items in
    let b = c.args.block in
    let list = c.as_slice-list.result.now in
    let from = c.saturating_sub.result in
    let number = λ (l : Listed). l.number in
    let listed = subst (λ ls. entries_of ls ≡ entries_on b patches) (sym c.as_slice-list.ensures.value)
    (ap (λ l. entries_of l.items) (sym c.index-sight-block.is) ∙ listed_at (λ l. entries_of l.items) patches c.args.sight.now.lists.now b c.index-sight-block.result c.requires.block c.index-sight-block.is c.requires.sees.listed) in
    let tail = subst (λ ls. Contains (map number ls) n) (take_rest list from) there in
    let all = subst (λ ns. Contains ns n) (sym (map-append number (take from list) (drop from list)) ∙ ap (map number) (take-append-drop from list)) (Contains-append_right (map number (take from list)) (map number (drop from list)) n tail) in
    listed_change patches list b n listed all
