use Rattle.std.proofs.Common.{◌∙◌, ◌<◌, [], set, length, ap, arith, inl, inr, subst, sym, Contains}
use Rattle.std.proofs.lemmas.List.{length-map, length-set}
use Rattle.fst_levels.specs.Needing.{Needing}
use Rattle.fst_levels.proofs.{OneOfMany.{told_here, told_beside, told_was}, PutMore.{numbers_in}}
use Rattle.fst_levels.proofs.needs.Needs.put_below.Goals as goal

pub invariant_of-self : goal.invariant_of-self
invariant_of-self c =
    let s = c.self.inside in
    let ls = s.lists.items in
    let was = c.index_mut.result.now in
    let new = c.put_firsts.new.list in
    let lt : s.block < length ls = omega (arith, c.requires.block, ap (λ (v : Needing). v.block) c.self.view_is, ap (λ (v : Needing). length v.lists) c.self.view_is, length-map ls numbers_in) in
    let len = told_here (λ l. l.len) ls s.block new 0 lt in
    let cap = told_here (λ l. l.cap) ls s.block new 0 lt in
    let was_len = told_was (λ l. l.len) ls s.block was 0 lt c.index_mut.ensures.value in
    let was_cap = told_was (λ l. l.cap) ls s.block was 0 lt c.index_mut.ensures.value in
    let fits = c.put_firsts.ensures.fits (omega (arith, was_len, was_cap, c.self.invariant)) in
    omega (arith, len, cap, fits)

pub returns-clause-besides : goal.returns-clause-besides
returns-clause-besides c =
    let s = c.self.inside in
    let ls = s.lists.items in
    let was = c.index_mut.result.now in
    let new = c.put_firsts.new.list in
    let lt : s.block < length ls = omega (arith, c.requires.block, ap (λ (v : Needing). v.block) c.self.view_is, ap (λ (v : Needing). length v.lists) c.self.view_is, length-map ls numbers_in) in
    let here = told_here numbers_in ls s.block new [] lt in
    let there = told_was numbers_in ls s.block was [] lt c.index_mut.ensures.value in
    rw (← c.self.view_is) (record {
      long = length-map (set ls s.block new) numbers_in ∙ (length-set ls s.block new ∙ sym (length-map ls numbers_in));
      others = λ k other. told_beside numbers_in ls s.block new k [] other;
      kept = λ n k. subst (λ ns. Contains ns n) (sym here) (c.put_firsts.ensures.kept n (subst (λ ns. Contains ns n) there k));
      only = λ n k. elim (c.put_firsts.ensures.only n (subst (λ ns. Contains ns n) here k)) [
        | inl old ↦ inl (subst (λ ns. Contains ns n) (sym there) old)
        | inr more ↦ inr (c.gather_below.ensures n (inl (subst (λ ns. Contains ns n) c.as_slice.ensures.value more)))
      ];
    })
