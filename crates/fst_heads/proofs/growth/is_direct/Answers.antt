use Rattle.fst_heads.proofs.{Basics.{◌≡◌, ◌∙◌, get_or, sym, ap}, Patches.is_among, Indices.{direct_index, none_index}, LinkedRows.{told_over, over_told}, Rows.{direct_from, direct_to}}
use Rattle.fst_heads.proofs.growth.is_direct.Goals as goal

pub returns-in_default : goal.returns-in_default
returns-in_default c =
    ((λ e. cc), λ d. let s = direct_index c.args.heads.now.list.items c.args.from c.args.to d in absurd (none_index c.args.heads.now.list.items c.args.from s.0 c.in_default.ensures.none s.1))

pub returns-then-dependants-row : goal.returns-then-dependants-row
returns-then-dependants-row c =
    let heads = c.args.heads.now.list.items in
    let d = c.index.result.now in
    let e = c.index-in-Some-index_of.result.now in
    let over = c.in-Some.ensures.found in
    let under = c.in-Some-index_of.ensures.found in
    let said : c.contains.result ≡ is_among (get_or heads c.in-Some-index_of.under e).dependants.items c.args.from = c.contains.ensures.value ∙ (ap (λ row. is_among row c.args.from) c.as_slice-dependants.ensures ∙ ap (λ h. is_among h.dependants.items c.args.from) c.index-in-Some-index_of.ensures) in (
      λ t. told_over heads c.args.heads.now.rising c.requires.linked c.args.from c.args.to c.in-Some.over c.in-Some-index_of.under d e over under (sym said ∙ t),
      λ on. said ∙ over_told heads c.args.heads.now.rising c.requires.linked c.args.from c.args.to c.in-Some.over c.in-Some-index_of.under d e over under on,
    )

pub returns : goal.returns
returns c =
    let heads = c.args.heads.now.list.items in
    let found = c.in-Some.ensures.found in
    let said : c.contains-2.result ≡ is_among (get_or heads c.in-Some.over c.index.result.now).dependencies.items c.args.to = c.contains-2.ensures.value ∙ (ap (λ row. is_among row c.args.to) c.as_slice-row.ensures ∙ ap (λ h. is_among h.dependencies.items c.args.to) c.index.ensures) in (
      λ e. direct_from heads c.args.heads.now.rising c.args.from c.in-Some.over c.index.result.now found c.args.to (sym said ∙ e),
      λ d. said ∙ direct_to heads c.args.heads.now.rising c.args.from c.in-Some.over c.index.result.now found c.args.to d,
    )
