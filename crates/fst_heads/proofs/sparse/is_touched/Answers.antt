use Rattle.fst_heads.proofs.{Basics.{◌≡◌, ◌∙◌, get_or, sym, ap}, Words.{patch_of, touches}, Newest.{touched_at, touched_none}}
use Rattle.fst_heads.proofs.sparse.is_touched.Goals as goal

pub returns-in-Some : goal.returns-in-Some
returns-in-Some c =
    let heads = c.args.heads.now.list.items in
    let b = c.args.block in
    let at = c.args.span.at in
    let len = c.args.span.len in
    let h = c.index.result.now in
    let same : c.touches.result ≡ touches b at len (patch_of (get_or heads c.in-Some.index h)) = c.touches.ensures ∙ ap (λ k. touches b at len (patch_of k)) c.index.ensures in
    let p = touched_at heads b at len c.args.number c.in-Some.index h c.args.heads.now.rising c.in-Some.ensures.found in
    (λ e. p.0 (sym same ∙ e), λ t. same ∙ p.1 t)

pub returns-in-None : goal.returns-in-None
returns-in-None c = ((λ e. cc), λ t. absurd (touched_none c.args.heads.now.list.items c.args.block c.args.span.at c.args.span.len c.args.number c.in-None.ensures.none t))
