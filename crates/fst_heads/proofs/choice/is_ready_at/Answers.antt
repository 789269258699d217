use Rattle.fst_heads.proofs.{Basics.{◌∙◌, ap, sym}, Listing.{any_index, any_none}, Words.{is_ready_on, node_of}}
use Rattle.fst_heads.proofs.choice.is_ready_at.Goals as goal

pub returns-in-Some : goal.returns-in-Some
returns-in-Some c =
    let t = is_ready_on c.args.block in
    let here = c.index.result.now in
    c.is_ready.ensures ∙ (ap (λ h. t (node_of h)) c.index.ensures ∙ sym (any_index c.args.heads.now.list.items c.args.number c.in-Some.index t here c.args.heads.now.rising c.in-Some.ensures.found))

pub returns-in-None : goal.returns-in-None
returns-in-None c = sym (any_none c.args.heads.now.list.items c.args.number (is_ready_on c.args.block) c.in-None.ensures.none)
