use Rattle.std.proofs.Common.{◌≡◌, ◌∙◌, length, vec_len, sym, arith}
use Rattle.std.proofs.lemmas.{Bool.{eqb-true, ltb-true}, List.{length-map}}
use Rattle.fst_heads.specs.{Lists.{entries_of, entries_on}, declared.lists.Listed.{Listed}}
use Rattle.fst_heads.proofs.Listing.{listed_at}
use Rattle.fst_levels.proofs.Above.{change_listed}
use Rattle.fst_levels.proofs.sink.sink_floor.Goals as goal

pub returns-then-is_empty-clause-leveled : goal.returns-then-is_empty-clause-leveled
returns-then-is_empty-clause-leveled c patches rising whole_lists blocks leveled =
    let b = c.args.block in
    let list = c.in-Some.list.now.items in
    let k = c.in-Some.ensures.lookup in
    let none : vec_len c.in-Some.list.now ≡ 0 = eqb-true (vec_len c.in-Some.list.now) 0 (sym c.is_empty.ensures ∙ c.if-is_empty.true) in
    let whole = c.in-Some.list.now.ok.0 in
    let inside = ltb-true b (length c.args.lists.now) (sym k.0) in
    let listed : entries_of list ≡ entries_on b patches = listed_at (λ l. entries_of l.items) patches c.args.lists.now b c.in-Some.list.now inside k.1 whole_lists in
    c.drop_floor.ensures.leveled patches blocks (λ n x.
    let met = change_listed patches list b n listed x in
    absurd (omega (arith, met.1, length-map list (λ (l : Listed). l.number), none, whole))) leveled
