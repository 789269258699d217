use Rattle.fst_heads.proofs.Basics.{◌≡◌, ◌∙◌, ◌∷◌, [], get_or, map, take, take_more, ap, sym, refl}
use Rattle.fst_heads.proofs.{AtNumber.patches_in_nodes, Flagged.{flagged_more, flagged_none, flagged_start, patches_flagged}}
use Rattle.fst_heads.proofs.Words.{patches_of, nodes_of, flags}
use Rattle.fst_levels.proofs.Seen.{seen}
use Rattle.fst_levels.proofs.flags.flag_all.Goals.{in-Some, in_default}
use Rattle.fst_levels.proofs.flags.flag_all.Goals as goal

pub loop-number-init : goal.loop-number-init
loop-number-init c = record { nodes = flagged_start (nodes_of c.args.heads.now.list.items); places = refl }

pub find-requires : goal.find-requires
find-requires c =
    let heads = c.loop-number.heads.list.items in
    let old = c.args.heads.now.list.items in
    let ns = take c.loop-number.number-index c.args.numbers.now in
    let same : patches_of heads ≡ patches_of old = seen heads _ c.loop-number.invariant.nodes ∙ (patches_flagged (nodes_of old) ns ∙ patches_in_nodes old) in
    record { aligned = rw same c.requires.aligned }

pub loop-number-preserved : goal.loop-number-preserved
loop-number-preserved c =
    let old = nodes_of c.args.heads.now.list.items in
    let row = c.args.numbers.now in
    let i = c.loop-number.number-index in
    let n = get_or row i 0 in
    let more = flagged_more old (take i row) n ∙ ap (λ ns. map (flags ns) old) (sym (take_more row i 0 c.loop-number-test.true)) in
    let turn = ap (map (flags (n ∷ []))) c.loop-number.invariant.nodes ∙ more in
    elim c.match-find.branch [
      | in-Some w ↦ rw w.heads-is (record { nodes = w.flag_at.ensures.nodes ∙ turn; places = w.flag_at.ensures.places ∙ c.loop-number.invariant.places })
      | in_default w ↦ rw w.heads-is (record {
        nodes = flagged_none c.loop-number.heads.list.items n (w.in_default.ensures.none) ∙ turn;
        places = c.loop-number.invariant.places;
      })
    ]
