use Rattle.std.proofs.Common.{ℕ, List, [], slice_index_or, ap, ◌∙◌, refl}
use denote.RawPtr.{Ptr}
use Rattle.fst_chain.specs.Linked.{nth}
use Rattle.fst_chain.specs.Records.{set_item}
use Rattle.fst_chain.proofs.Removed.{at_node, nth_at}
use Rattle.fst_chain.proofs.Tails.{same_tails}
use Rattle.fst_chain.proofs.Cursors.{same_links, items-set, item_is}
use Rattle.fst_chain.proofs.chain.Chain.item_mut.Goals as goal

pub at_mut-node-requires : goal.at_mut-node-requires
at_mut-node-requires g c =
    let ps = c.self.inside.heap.places in let i = c.args.i in let e = ap (λ (v : List Ptr × _). nth v.0 i) c.self.view_is ∙ c.requires in
    (at_node ps c.self.inside.heap.items c.self.invariant.0 i c.args.at e, nth_at ps i c.args.at e)

pub invariant_of-self-lent : goal.invariant_of-self-lent
invariant_of-self-lent g c = λ w. (same_links c.self.inside.heap.places c.self.inside.heap.items c.self.invariant.0 c.args.i c.at_mut-node.result.now _ c.at_mut-node.ensures.value refl refl, c.self.invariant.1, same_tails c.self.inside.heap.items c.args.i _ c.at_mut-node.result.now refl c.at_mut-node.ensures.value ∙ c.self.invariant.2)

pub returns : goal.returns
returns g c =
    let ps = c.self.inside.heap.places in let xs = c.self.inside.heap.items in let i = c.args.i in let m = c.at_mut-node.result.now in let is = c.at_mut-node.ensures.value in
    let e = ap (λ (v : List Ptr × _). nth v.0 i) c.self.view_is ∙ c.requires in (
      (refl, λ w. ap (λ rs. (ps, rs)) (items-set xs i m _ is refl) ∙ ap (λ (v : List Ptr × _). (v.0, set_item v.1 i w)) c.self.view_is),
      record { writes_back = tt; value = item_is xs i m (m.item, []) is (at_node ps xs c.self.invariant.0 i c.args.at e) ∙ ap (λ (v : List Ptr × List (g.row.T.Denot × List ℕ)). (slice_index_or v.1 i (m.item, [])).0) c.self.view_is },
    )
