use Rattle.std.proofs.Common.{◌∙◌, length, not, sym, ap, inl, inr}
use Rattle.std.proofs.lemmas.Bool.{cases_Bool, eqb-true}
use Rattle.fst_walks.proofs.Searched.{none_depend}
use Rattle.fst_walks.proofs.overlap_cycle.has_dependants.Goals as goal

pub returns-in-Some : goal.returns-in-Some
returns-in-Some c n d =
    elim (cases_Bool c.is_empty.result) [
      | inl empty ↦ absurd (none_depend c.args.sight.now.heads.now.list.items c.args.number c.in-Some.index c.index.result.now c.requires.sees.linked c.in-Some.ensures.found (ap length (sym (c.as_slice.ensures ∙ ap (λ h. h.dependants.items) c.index.ensures)) ∙ eqb-true _ 0 (sym c.is_empty.ensures ∙ empty)) n d)
      | inr some ↦ ap not some
    ]
