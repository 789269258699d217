use Rattle.std.proofs.lemmas.List.Elements.{filter_from_retain}
use Rattle.fst_heads.proofs.{Basics.{rules}, FirstOnDisk.live_head}
use Rattle.fst_heads.proofs.places.leave_live.Goals as goal

pub returns-then-len-end : goal.returns-then-len-end
returns-then-len-end c = filter_from_retain _ live_head (λ f x b g called. search rules) _ _ _ c.retain.ensures.filtered
