use Rattle.std.proofs.Common.{get_or, refl, sym, subst, inl, arith}
use Rattle.std.proofs.lemmas.{List.Elements.{Contains-get_or}, Option.IfSome_then}
use Rattle.fst_heads.specs.{Heads.{patch_of, patches_of}, Indices.HasIndex}
use Rattle.fst_heads.proofs.Indices.{patch_at, some_element}
use Rattle.fst_levels.proofs.{Backed.back_over, NearRow.row_direct}
use Rattle.fst_levels.proofs.known.leads_over_known.Goals as goal

pub returns-then-is_some : goal.returns-then-is_some
returns-then-is_some c =
    let heads = c.args.sight.now.heads.now.list.items in
    let row = c.args.row.now in
    let n = get_or row c.loop-number.number-index 0 in
    let s = c.in-Some.index in
    let index = c.in-Some.ensures.found in
    let e = some_element heads s index.0 in
    let p = patch_of (get_or heads s e) in
    let named = Contains-get_or row c.loop-number.number-index 0 (omega (arith, c.loop-number-test.true)) in
    IfSome_then c.known_end-end.result c.known_end-end.ensures (λ end told. back_over (patches_of heads) c.args.block row p.dependencies n n end named (inl refl) (row_direct heads c.args.sight.now.heads.now.rising n s e index p.dependencies refl) (told p (patch_at heads s e index.0) (subst (λ m. HasIndex heads m s) (sym (index.1 e)) index)))
