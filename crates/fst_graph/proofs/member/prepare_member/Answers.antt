use Rattle.std.proofs.Common.{refl, Bor, List, sym, ap, subst}
use Rattle.fst_types.specs.{declared.number.PatchNo.PatchNo}
use Rattle.fst_heads.specs.{Grading.MayBeHard, Heads.patches_of, Lists.entries_of, Names.numbers_of}
use Rattle.fst_heads.proofs.Listing.{listed_at}
use Rattle.fst_walks.specs.Telling.{IsTold}
use Rattle.fst_graph.proofs.MemberReady.{IsAfter, rests, waits, told_open, member_row, member_told}
use Rattle.fst_graph.proofs.member.prepare_member.Goals.{then-is_some+then-rests, else-is_some, else-is_some-via-then-is_some+else-rests, else-is_some-via-else-is_some}
use Rattle.fst_graph.proofs.member.prepare_member.Goals as goal

pub sparse_row-requires-clause-listed : goal.sparse_row-requires-clause-listed
sparse_row-requires-clause-listed c =
    rw (c.deref.ensures.value, ← c.index-sight-block.is) (listed_at (λ l. entries_of l.items) (patches_of c.args.sight.now.heads.now.list.items) c.args.sight.now.lists.now c.args.block c.index-sight-block.result c.requires.block c.index-sight-block.is c.requires.sees.listed)

pub sparse_row-requires-clause-covered : goal.sparse_row-requires-clause-covered
sparse_row-requires-clause-covered c = c.requires.sees.covered.each c.args.block c.index-sight-block-2.result c.requires.block

pub returns-clause-depends : goal.returns-clause-depends
returns-clause-depends c =
    let patches = patches_of c.args.sight.now.heads.now.list.items in
    let head = c.args.gates.head in
    let after = numbers_of c.if-is_some.after.now in
    let opened = told_open patches head c.if_open-opened.result c.is_some.result c.is_some.ensures c.if_open-opened.ensures.some c.if_open-opened.ensures.none in
    let is : IsAfter patches head after =
    elim c.if-is_some.branch [
      | then-is_some+then-rests w ↦ subst (IsAfter patches head) (sym (ap (λ (r : Bor (List PatchNo)). numbers_of r.now) w.after-is)) (rests (opened.0 w.if-is_some.true) (w.rests.ensures.rests w.if-rests.true))
      | else-is_some w ↦ subst (IsAfter patches head) (sym (ap (λ (r : Bor (List PatchNo)). numbers_of r.now) w.after-is)) (waits (λ gate. elim w.else-is_some.branch [
        | else-is_some-via-then-is_some+else-rests v ↦ v.rests.ensures.waits v.if-rests.false
        | else-is_some-via-else-is_some v ↦ absurd (opened.1 v.if-is_some.false gate)
      ]))
    ] in
    member_row patches c.requires.lawful.0 c.requires.lawful.1 head c.args.block c.in-Ok-sparse_row.dependencies.items c.args.span.at c.args.span.len after is c.in-Ok-sparse_row.ensures

pub returns-clause-told : goal.returns-clause-told
returns-clause-told c =
    let patches = patches_of c.args.sight.now.heads.now.list.items in
    member_told patches c.requires.lawful.0 c.requires.lawful.1 c.args.gates.head c.args.block c.in-Ok-sparse_row.dependencies.items c.grade_of-told.result c.if_open-opened.result c.if_open-opened.ensures.some c.if_open-opened.ensures.none
    (subst (λ r. IsTold patches c.args.block r (MayBeHard patches c.if_open-opened.result c.args.block r) c.grade_of-told.result) c.as_slice-row.ensures c.grade_of-told.ensures.told)

pub returns-clause-names : goal.returns-clause-names
returns-clause-names c = rw c.in-Ok.ensures refl
