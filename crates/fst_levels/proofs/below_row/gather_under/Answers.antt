use Rattle.std.proofs.Common.{◌∙◌, Contains, ap, inl, inr, subst, sym}
use Rattle.fst_heads.specs.Heads.{patch_of, patches_of}
use Rattle.fst_heads.proofs.Indices.{patch_at}
use Rattle.fst_levels.proofs.below_row.gather_under.Goals as goal

pub returns-then-leads_on : goal.returns-then-leads_on
returns-then-leads_on c n k =
    let heads = c.args.heads.now.list.items in
    let found = c.in-Some.ensures.found in
    elim (c.gather.ensures n k) [
      | inl was ↦ inl was
      | inr named ↦ inr (record {
        patch = patch_of c.index-head.result.now;
        head = subst (λ h. Contains (patches_of heads) (patch_of h)) (sym c.index-head.ensures) (patch_at heads c.in-Some.index c.index-head.result.now found.0);
        numbered = ap (λ h. h.number) c.index-head.ensures ∙ found.1 c.index-head.result.now;
        named = subst (λ row. Contains row n) c.as_slice.ensures (c.newest_few-row.ensures.only n named);
      })
    ]
