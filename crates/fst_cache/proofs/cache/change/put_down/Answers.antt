use Rattle.std.proofs.Common.{◌≡◌, Some, subst, sym}
use Rattle.fst_cache.specs.{After.{adds_after, prepared_after}, declared.cache.change.After.After}
use Rattle.fst_cache.proofs.GroupWhole.{member_prepared}
use Rattle.fst_cache.proofs.cache.change.put_down.Goals as goal

pub returns-in-Ok-group_patch : goal.returns-in-Ok-group_patch
returns-in-Ok-group_patch c number grade kept =
    let graph = c.args.graph.now in
    let b = c.args.block.0 in
    let at = c.args.span.at in
    let len = c.args.span.len in
    let own = subst (λ (k : After). graph.prepared ≡ Some (prepared_after k b at len number grade)) c.in-InGroup.is kept in
    subst (λ (k : After). adds_after k graph b at len number grade c.group_patch.new.self) (sym c.in-InGroup.is)
    (member_prepared c.group_patch.result (c.group_patch.ensures.prepared number grade own) c.group_patch.ensures.ok)
