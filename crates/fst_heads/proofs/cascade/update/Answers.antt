use Rattle.fst_heads.proofs.{Basics.{◌∙◌, sym, ap, subst}, Words.{Node, Fits}, Indexed.rested_sums}
use Rattle.fst_heads.proofs.cascade.update.Goals as goal

pub is_recorded-requires : goal.is_recorded-requires
is_recorded-requires c = subst Fits (sym (ap (λ (x : Node). x.sums) c.rest.ensures.node ∙ rested_sums _)) c.change.ensures.fits
