use Rattle.fst_heads.proofs.{Basics.{set-get_or, ◌≡◌, ◌∙◌, get_or, true, false, sym, ap}, Patches.is_change_at, Words.{patch_of, lands, node_of, nodes_of}}
use Rattle.fst_heads.proofs.{AtNumber.{at_index, at_none}, Landing.landed_node, Listing.{flies, any_none, any_index, lands_still}, Indices.any_default}
use Rattle.fst_heads.proofs.Patches.place
use Rattle.fst_heads.proofs.lists.land_number.Goals as goal

pub returns-in_default-clause-flew : goal.returns-in_default-clause-flew
returns-in_default-clause-flew c = sym (any_none c.args.heads.now.list.items c.args.number (flies c.args.block) (c.in_default.ensures.none))

pub returns-in_default-clause-nodes : goal.returns-in_default-clause-nodes
returns-in_default-clause-nodes c = at_none c.args.heads.now.list.items c.args.number (lands c.args.block) (c.in_default.ensures.none)

pub returns-then-is_change_at : goal.returns-then-is_change_at
returns-then-is_change_at c =
    let heads = c.args.heads.now.list.items in
    let n = c.args.number in
    let b = c.args.block in
    let s = c.in-Some.index in
    let m = c.index_mut.result.now in
    let index = c.in-Some.ensures.found in
    let flying : is_change_at place.Flight b (patch_of (get_or heads s m)) ≡ true =
    sym (ap (λ h. is_change_at place.Flight b (patch_of h)) (c.index.ensures ∙ any_default heads s c.index.result.now m index.0)) ∙ sym c.if-is_change_at.ensures in
    record {
      flew = sym (any_index heads n s (flies b) m c.args.heads.now.rising index ∙ flying);
      nodes = at_index heads n s (lands b) (record m { place = place.Disk }) m c.args.heads.now.rising index (landed_node b m (get_or heads s m) c.index_mut.ensures.value flying);
    }

pub returns : goal.returns
returns c =
    let heads = c.args.heads.now.list.items in
    let n = c.args.number in
    let b = c.args.block in
    let s = c.in-Some.index in
    let d = c.index.result.now in
    let index = c.in-Some.ensures.found in
    let still : is_change_at place.Flight b (patch_of (get_or heads s d)) ≡ false = sym (ap (λ h. is_change_at place.Flight b (patch_of h)) c.index.ensures) ∙ sym c.if-is_change_at.ensures in
    record {
      flew = sym (any_index heads n s (flies b) d c.args.heads.now.rising index ∙ still);
      nodes = sym (ap nodes_of (set-get_or heads s d)) ∙ at_index heads n s (lands b) (get_or heads s d) d c.args.heads.now.rising index (sym (lands_still b (node_of (get_or heads s d)) still));
    }
