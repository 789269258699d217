use Rattle.std.proofs.Common.{List, length, sym, ap, ◌∙◌, refl}
use denote.RawPtr.{Ptr}
use Rattle.fst_chain.specs.Linked.{nth}
use Rattle.fst_chain.specs.Records.{payload_at}
use Rattle.fst_chain.proofs.Removed.{at_node, nth_at}
use Rattle.fst_chain.proofs.Tails.{same_tails}
use Rattle.fst_chain.proofs.Cursors.{same_links, records-set, payload_is, refilled}
use Rattle.fst_chain.proofs.chain.Chain.swap.Goals as goal

pub at_mut-node-requires : goal.at_mut-node-requires
at_mut-node-requires g c =
    let ps = c.self.inside.heap.places in let i = c.args.i in let e = ap (λ (v : List Ptr × _). nth v.0 i) c.self.view_is ∙ c.requires.place in
    (at_node ps c.self.inside.heap.items c.self.invariant.0 i c.args.at e, nth_at ps i c.args.at e)

pub swap_with_slice-requires : goal.swap_with_slice-requires
swap_with_slice-requires g c =
    let i = c.args.i in let e = ap (λ (v : List Ptr × _). nth v.0 i) c.self.view_is ∙ c.requires.place in
    ap length (c.deref_mut.ensures.value
    ∙ sym (payload_is c.self.inside.heap.items i c.at_mut-node.result.now c.at_mut-node.ensures.value (at_node c.self.inside.heap.places c.self.inside.heap.items c.self.invariant.0 i c.args.at e))
    ∙ ap (λ (v : List Ptr × _). payload_at v.1 i) c.self.view_is) ∙ c.requires.fits

pub invariant_of-self : goal.invariant_of-self
invariant_of-self g c = (same_links c.self.inside.heap.places c.self.inside.heap.items c.self.invariant.0 c.args.i c.at_mut-node.result.now _ c.at_mut-node.ensures.value refl refl, c.self.invariant.1, same_tails c.self.inside.heap.items c.args.i _ c.at_mut-node.result.now refl c.at_mut-node.ensures.value ∙ c.self.invariant.2)

pub returns-clause-records : goal.returns-clause-records
returns-clause-records g c =
    records-set c.self.inside.heap.items c.args.i c.at_mut-node.result.now _ c.at_mut-node.ensures.value refl ∙ rw (c.swap_with_slice.ensures.after, refilled _ c.args.bytes.now _ (sym c.deref_mut.ensures.len ∙ sym c.swap_with_slice.ensures.len ∙ ap length c.swap_with_slice.ensures.after), ← c.self.view_is) refl

pub returns-clause-bytes : goal.returns-clause-bytes
returns-clause-bytes g c =
    let i = c.args.i in let e = ap (λ (v : List Ptr × _). nth v.0 i) c.self.view_is ∙ c.requires.place in
    c.swap_with_slice.ensures.other_after ∙ c.deref_mut.ensures.value
    ∙ sym (payload_is c.self.inside.heap.items i c.at_mut-node.result.now c.at_mut-node.ensures.value (at_node c.self.inside.heap.places c.self.inside.heap.items c.self.invariant.0 i c.args.at e))
    ∙ ap (λ (v : List Ptr × _). payload_at v.1 i) c.self.view_is
