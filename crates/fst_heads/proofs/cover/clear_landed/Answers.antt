use Rattle.std.proofs.lemmas.Bool.{eqb-true, ltb-true}
use Rattle.fst_heads.proofs.Basics.{◌≡◌, ◌∙◌, [], length, vec_len, sym, ap, arith, nil_from_length}
use Rattle.fst_heads.proofs.{Listing.listed_at, Uncovered.covered_cleared}
use Rattle.fst_heads.specs.Lists.{entries_of, entries_on}
use Rattle.fst_heads.proofs.cover.clear_landed.Goals as goal

pub returns-in-Some-get_mut : goal.returns-in-Some-get_mut
returns-in-Some-get_mut c patches whole_lists blocks covered =
    let b = c.args.block in
    let list = c.in-Some.list.now.items in
    let k = c.in-Some.ensures.lookup in
    let no_entry : vec_len c.in-Some.list.now ≡ 0 = eqb-true (vec_len c.in-Some.list.now) 0 (sym c.is_empty.ensures ∙ c.if-is_empty.true) in
    let inside = ltb-true b (length c.args.lists.now) (sym k.0) in
    let listed : entries_of list ≡ entries_on b patches = listed_at (λ l. entries_of l.items) patches c.args.lists.now b c.in-Some.list.now inside k.1 whole_lists in
    let none : list ≡ [] = nil_from_length list (omega (arith, no_entry, c.in-Some.list.now.ok.0)) in
    covered_cleared patches blocks b c.args.covers.now.items c.clear.new.self (sym listed ∙ ap entries_of none) covered
