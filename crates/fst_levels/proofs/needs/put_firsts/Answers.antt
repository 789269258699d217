use Rattle.std.proofs.Common.{Contains, inl, inr, subst, sym}
use Rattle.std.proofs.lemmas.List.Elements.{Contains-get_or}
use Rattle.fst_levels.proofs.needs.put_firsts.Goals as goal

pub loop-number-preserved : goal.loop-number-preserved
loop-number-preserved c =
    let numbers = c.args.numbers.now in
    let inv = c.loop-number.invariant in
    let more = c.put_first.ensures in
    record {
      kept = λ n k. more.kept n (inv.kept n k);
      only = λ n k. elim (more.only n k) [
        | inl was ↦ inv.only n was
        | inr e ↦ inr (subst (Contains numbers) (sym e) (Contains-get_or numbers c.loop-number.number-index 0 c.loop-number-test.true))
      ];
      fits = λ fits. more.fits (inv.fits fits);
    }
