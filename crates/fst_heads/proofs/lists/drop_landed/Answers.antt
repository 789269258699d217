use Rattle.fst_heads.proofs.{Basics.{rules, not, ◌∙◌, ap}, Patches.is_among, Words.{entries_of, Listed}, Forgetting.filter_from_test, Listing.entries_filter}
use Rattle.fst_heads.proofs.lists.drop_landed.Goals as goal

pub returns : goal.returns
returns c =
    let landed = c.args.landed.now in
    ap entries_of (filter_from_test _ (λ (l : Listed). not (is_among landed l.number)) _ (λ l b g called. (search rules, search rules)) _ _ c.retain.ensures.filtered)
    ∙ entries_filter (λ n. not (is_among landed n)) c.args.list.now.items
